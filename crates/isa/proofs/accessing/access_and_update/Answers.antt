use Rattle.isa.proofs.Ways.{without_access, outside_memory, loaded_inside, stored_inside}
use Rattle.machine.specs.Memory.{lent}
use Rattle.isa.proofs.accessing.access_and_update.Goals as goal

pub returns-in-NoAccess : goal.returns-in-NoAccess
returns-in-NoAccess c =
    without_access _ _ c.new-access.ensures (lent c.args.memory.now) _ c.new-access.result.of_its_row _ _ c.in-NoAccess.is c.accessed.ensures

pub returns-then-loads : goal.returns-then-loads
returns-then-loads c =
    loaded_inside _ _ c.new-access.ensures _ _ c.new-access.result.of_its_row _ _ c.in_default.not-NoAccess _ c.address-at.ensures _ c.inside.ensures
    c.if-inside.true _ c.loads.ensures _ c.if-loads.true c.load-word.ensures c.accessed-then-loads.ensures

pub returns-else-loads : goal.returns-else-loads
returns-else-loads c =
    stored_inside _ _ c.new-access.ensures _ _ c.new-access.result.of_its_row _ _ c.in_default.not-NoAccess _ c.address-at.ensures _ c.inside.ensures
    c.if-inside.true _ c.loads.ensures _ _ _ _ c.if-loads.false c.stored_word.ensures c.store.ensures c.is_bad.ensures c.meets_window.ensures
    c.accessed-else-loads.ensures

pub returns-else-inside : goal.returns-else-inside
returns-else-inside c =
    outside_memory _ _ c.new-access.ensures _ _ c.new-access.result.of_its_row _ _ c.in_default.not-NoAccess _ c.address-at.ensures _ c.inside.ensures
    c.if-inside.false c.accessed-else-inside.ensures

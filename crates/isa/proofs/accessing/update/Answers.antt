use Rattle.isa.proofs.Ways.{updated, left_alone}
use Rattle.isa.proofs.accessing.update.Goals as goal

pub returns-then-stores : goal.returns-then-stores
returns-then-stores c =
    updated _ _ c.new-access.ensures _ _ c.new-access.result.of_its_row _ _ _ _ c.stores.ensures c.if-stores.true c.address.ensures c.stored_word.ensures
    c.store.ensures

pub returns-else-stores : goal.returns-else-stores
returns-else-stores c = left_alone _ _ c.new-access.ensures _ _ c.new-access.result.of_its_row _ c.stores.ensures c.if-stores.false

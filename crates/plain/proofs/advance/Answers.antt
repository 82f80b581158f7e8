-- One instruction, stage by stage. The two ways out are those of the definition's step, the stop (`Ways` `stops`) and the instruction performed
-- (`Ways` `performs`).
use Rattle.plain.proofs.Ways.{stops, performs}
use Rattle.machine.specs.Memory.{lent}
use Rattle.plain.proofs.advance.Goals as goal

pub returns-then-is_bad : goal.returns-then-is_bad
returns-then-is_bad c =
    stops _ (lent c.args.memory.now) _ _ _ _ _ c.requires.1 c.instruction_at-i.ensures c.decoded-x.ensures c.execute-e.ensures
    c.access-w.ensures c.is_bad.ensures _ _ c.if-is_bad.true c.blame_of.ensures c.after_stop.ensures

pub returns : goal.returns
returns c =
    performs _ (lent c.args.memory.now) _ _ _ _ _ c.requires.1 c.instruction_at-i.ensures c.decoded-x.ensures c.execute-e.ensures c.access-w.ensures
    c.is_bad.ensures _ _ c.if-is_bad.false c.update.ensures c.after_performed.ensures

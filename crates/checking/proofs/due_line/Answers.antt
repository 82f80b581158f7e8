use Rattle.checking.proofs.Lines.{another, due_is}
use Rattle.checking.proofs.due_line.Goals as goal

pub returns-in_err-next : goal.returns-in_err-next
returns-in_err-next c =
    rw c.from_residual.ensures
    (another _ _ c.args.copy.now c.args.c _ _ _ _ _ _ _ c.executed_at-x.ensures c.access-w.ensures c.reason_from.ensures c.charge_of.ensures.0 c.target_of-target.ensures
    c.value_after.ensures c.passed.ensures c.in_err-next.was)

pub returns : goal.returns
returns c =
    due_is _ _ c.args.copy.now c.args.c _ _ _ _ _ _ _ c.executed_at-x.ensures c.access-w.ensures c.reason_from.ensures c.charge_of.ensures.0 c.target_of-target.ensures
    c.value_after.ensures c.passed.ensures _ c.in_ok-next.was

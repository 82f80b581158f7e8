use Rattle.isa.proofs.Ways.{no_overflow}
use native.Mathlib.Omega.{arith}
use Rattle.machine.specs.Stages.{overflows}
use Rattle.isa.proofs.executing.overflows.Goals as goal

pub returns-in-0 : goal.returns-in-0
unfolding overflows
returns-in-0 c = rw c.in-0.is c.sum_outside.ensures

pub returns-in-1 : goal.returns-in-1
unfolding overflows
returns-in-1 c = rw c.in-1.is c.difference_outside.ensures

pub returns-in_default : goal.returns-in_default
returns-in_default c = no_overflow _ _ _ (omega arith)

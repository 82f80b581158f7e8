use Rattle.isa.proofs.Ways.{no_operation}
use native.Mathlib.Omega.{arith}
use Rattle.machine.specs.Stages.{operated}
use Rattle.isa.proofs.executing.operated.Goals as goal

pub returns-in-0 : goal.returns-in-0
unfolding operated
returns-in-0 c = rw c.in-0.is c.sum.ensures

pub returns-in-1 : goal.returns-in-1
unfolding operated
returns-in-1 c = rw c.in-1.is c.difference.ensures

pub returns-in-2 : goal.returns-in-2
unfolding operated
returns-in-2 c = rw c.in-2.is

pub returns-in-3 : goal.returns-in-3
unfolding operated
returns-in-3 c = rw c.in-3.is

pub returns-in_default : goal.returns-in_default
returns-in_default c = no_operation _ _ _ (omega arith)

-- Each arm is the entry of the definition's list at that number; past six the list has none (`Ways` `no_condition`).
use Rattle.isa.proofs.Ways.{no_condition}
use native.Mathlib.Omega.{arith}
use Rattle.machine.specs.Stages.{condition}
use Rattle.isa.proofs.executing.condition.Goals as goal

pub returns-in-0 : goal.returns-in-0
unfolding condition
returns-in-0 c = rw c.in-0.is

pub returns-in-1 : goal.returns-in-1
unfolding condition
returns-in-1 c = rw c.in-1.is

pub returns-in-2 : goal.returns-in-2
unfolding condition
returns-in-2 c = rw c.in-2.is

pub returns-in-3 : goal.returns-in-3
unfolding condition
returns-in-3 c = rw c.in-3.is

pub returns-in-4 : goal.returns-in-4
unfolding condition
returns-in-4 c = rw c.in-4.is

pub returns-in-5 : goal.returns-in-5
unfolding condition
returns-in-5 c = rw c.in-5.is

pub returns-in-6 : goal.returns-in-6
unfolding condition
returns-in-6 c = rw c.in-6.is

pub returns-in_default : goal.returns-in_default
returns-in_default c = no_condition _ _ (omega arith)

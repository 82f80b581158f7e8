-- The invariant `Goes`: `done` instructions have been performed and logged, each at its place, the count with what is left of the budget is within
-- the limit, and memory and log keep their lengths.
use Rattle.plain.proofs.Ways.{Goes}
use Rattle.machine.specs.Memory.{lent}
use Rattle.plain.proofs.run_on.Given as goal

abbrev pub invariant-loop-done : goal.invariant-loop-done
invariant-loop-done l = Goes l.fn.m (lent l.fn.memory) l.fn.budget l.fn.log l.s (lent l.memory) l.log l.done

use Rattle.checking.proofs.Turns.{Turn}
use Rattle.clocked.specs.Prediction.{core_of}
use Prim.Native.Nat.{◌-◌}
use lib.ListN.{length}
use Rattle.checking.proofs.check.Given as goal

abbrev pub invariant-loop-c : goal.invariant-loop-c
invariant-loop-c l = Turn (core_of l.settings) l.initial.c.machine l.initial.copy l.trace l.c l.copy

abbrev pub decreases-loop-c : goal.decreases-loop-c
decreases-loop-c l = length l.trace - l.c.at

use Prim.Native.Nat.{◌-◌}
use Rattle.machine.specs.Memory.{lent}
use Rattle.writing.proofs.Loop.{SoFar}
use Rattle.writing.proofs.put_listing.Given as goal

abbrev pub invariant-loop-at : goal.invariant-loop-at
invariant-loop-at l = SoFar (lent l.memory) l.start l.end l.at l.cut l.fn.out l.out

abbrev pub decreases-loop-at : goal.decreases-loop-at
decreases-loop-at l = l.end - l.at

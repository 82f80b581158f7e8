use Rattle.std.proofs.Common.{length}
use Rattle.listing.proofs.Lines.{Lays}
use Rattle.listing.proofs.laying.lay.Given as goal

abbrev pub invariant-loop-line : goal.invariant-loop-line
invariant-loop-line l = Lays l.text l.initial.memory l.memory (length l.yielded)

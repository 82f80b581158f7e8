use Rattle.std.proofs.Common.{length}
use Rattle.listing.proofs.Judgement.{Judges}
use Rattle.listing.proofs.judging.judge.Given as goal

abbrev pub invariant-loop-passed : goal.invariant-loop-passed
invariant-loop-passed l = Judges l.size l.text (length l.yielded) l.free

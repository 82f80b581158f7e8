use Rattle.text.proofs.Digits.{Counted}
use Rattle.text.proofs.hex.number.Given as goal

abbrev pub invariant-loop-c : goal.invariant-loop-c
invariant-loop-c l = Counted l.s l.n l.c-index

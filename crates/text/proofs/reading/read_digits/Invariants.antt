-- With the digits before this one read, reading on gives what reading all gives.
use Rattle.std.proofs.Common.{◌≡◌, drop, ◌+◌}
use Rattle.text.specs.Field.{read_on}
use Rattle.text.proofs.reading.read_digits.Given as goal

abbrev pub invariant-loop-i : goal.invariant-loop-i
invariant-loop-i l = read_on l.v (l.at + l.i) (drop l.i l.b-items) ≡ read_on 0 l.at (drop l.at l.text)

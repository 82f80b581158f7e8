use native.Mathlib.Omega.{arith}
use Rattle.text.proofs.Ways.{more_digits}
use Rattle.text.proofs.putting.Writer.+decimal.Goals as goal

pub returns : goal.returns
returns t c = more_digits (omega arith) c.decimal.ensures c.byte-2.ensures

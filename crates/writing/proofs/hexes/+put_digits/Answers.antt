use native.Mathlib.Omega.{arith}
use Rattle.text.specs.Put.{put_both}
use Rattle.writing.proofs.Digits.{last_hex, more_hex}
use Rattle.writing.proofs.hexes.+put_digits.Goals as goal

pub returns-then-left-eq0 : goal.returns-then-left-eq0
returns-then-left-eq0 t c = rw (last_hex c.args.left c.args.n c.if-left-eq0.true) c.put_digit.ensures

pub returns : goal.returns
returns t c =
    rw (more_hex c.args.left c.args.n c.if-left-eq0.false (omega arith)) (put_both c.put_digits.ensures c.put_digit-2.ensures)

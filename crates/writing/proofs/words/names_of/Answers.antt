use Prim.Native.Nat.{◌<◌, ◌≤◌}
use mathlib.Core.Path.{refl}
use mathlib.Core.List.{[]}
use native.Mathlib.Omega.{arith}
use lib.ListN.{length, get_or-eq_default}
use Rattle.text.specs.Bytes.{bytes, row_at}
use Rattle.writing.specs.Remark.{mnemonics}
use Rattle.writing.proofs.words.names_of.Goals as goal

pub returns-then-code-lt13 : goal.returns-then-code-lt13
unfolding mnemonics bytes
returns-then-code-lt13 c =
    let h : c.args.code < length mnemonics = c.if-code-lt13.true in
    rw (row_at mnemonics) refl

pub returns-else-code-lt13 : goal.returns-else-code-lt13
unfolding mnemonics bytes
returns-else-code-lt13 c =
    let h : length mnemonics ≤ c.args.code = omega (arith, c.if-code-lt13.false) in
    rw (get_or-eq_default mnemonics [] h) refl

use mathlib.Core.Path.{refl}
use mathlib.Core.List.{[]}
use native.Mathlib.Omega.{arith}
use Prim.Native.Nat.{◌≤◌}
use lib.ListN.{length, get_or, get_or-eq_default}
use Rattle.text.specs.Bytes.{bytes, texts_length, text_at}
use Rattle.writing.specs.Remark.{mnemonics, mnemonic}
use Rattle.writing.proofs.words.mnemonic_of.Goals as goal

pub returns-then-function-names : goal.returns-then-function-names
unfolding mnemonic
returns-then-function-names c =
    let names = get_or mnemonics c.args.code [] in
    let e = c.names_of-names.ensures in
    text_at names _ c.args.function _ e (omega (arith, c.if-function-names.true, texts_length names _ e))

pub returns-else-function-names : goal.returns-else-function-names
unfolding mnemonic bytes
returns-else-function-names c =
    let names = get_or mnemonics c.args.code [] in
    let e = c.names_of-names.ensures in
    let h : length names ≤ c.args.function = omega (arith, c.if-function-names.false, texts_length names _ e) in
    rw (get_or-eq_default names "" h) refl

use Prim.Native.Nat.{◌<◌, ◌≤◌}
use mathlib.Core.Path.{refl}
use native.Mathlib.Omega.{arith}
use lib.ListN.{length, get_or-eq_default}
use Rattle.text.specs.Bytes.{bytes, text_at}
use Rattle.register_lines.specs.Registers.{register_names, register_name}
use Rattle.register_lines.proofs.name_of.Goals as goal

pub returns-then-k-lt15 : goal.returns-then-k-lt15
unfolding register_name register_names bytes
returns-then-k-lt15 c =
    let h : c.args.k < length register_names = c.if-k-lt15.true in
    rw (text_at register_names) refl

pub returns-else-k-lt15 : goal.returns-else-k-lt15
unfolding register_name register_names bytes
returns-else-k-lt15 c =
    let h : length register_names ≤ c.args.k = omega (arith, c.if-k-lt15.false) in
    rw (get_or-eq_default register_names "" h) refl

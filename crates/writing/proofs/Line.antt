-- How long a line is. Assumes nothing.
use mathlib.Core.Bool.{Bool, true, false, cond}
use mathlib.Core.List.{List, [], ◌∷◌, ◌++◌}
use mathlib.Core.Path.{◌≡◌, refl}
use Prim.Native.Nat.{ℕ, zero, suc, ◌+◌, ◌-◌, ◌/◌, ◌^◌, ◌≤◌, ◌<◌}
use Prim.Native.String.{String}
use Rattle.std.proofs.Common.{max, w8, Fits}
use native.Mathlib.Omega.{arith}
use lib.Dec.{ltb}
use lib.ListN.{length, take, drop, get_or, length-take, length-append}
use Rattle.machine.specs.Memory.{Memory}
use Rattle.machine.specs.declared.Status.TheVariants.{Aok as aok}
use Rattle.word.proofs.Bytes.{number_below}
use Rattle.machine.specs.Table.{row_of}
use Rattle.published.specs.Fetching.{M₁, aok_at}
use Rattle.listing.specs.Grammar.{remarked, line}
use Rattle.text.specs.Bytes.{bytes, longest, at_most_longest}
use Rattle.text.specs.Decimal.{word_length}
use Rattle.text.specs.Parts.{line_feed}
use Rattle.register_lines.specs.Registers.{name_length}
use Rattle.writing.specs.Remark.{Operands, nothing, pair, immediate, store, load, target, single, mnemonics, mnemonic, operands_of, register, operands, remark}
use Rattle.writing.specs.Text.{noted, line_of}
use Rattle.writing.specs.There.{there_at}
use Rattle.writing.specs.Back.{address_length, pairs_length}

pub register_length : (k : ℕ) → length (register k) ≤ 4
unfolding register bytes
register_length k = omega (arith, name_length k)

pub operands_length : (o : Operands) (a b c : ℕ) → c < 2 ^ 64 → length (operands o a b c) ≤ 42
unfolding operands bytes
operands_length nothing a b c h = omega arith
operands_length pair a b c h = simp length-append (omega (arith, register_length a, register_length b))
operands_length immediate a b c h = simp length-append (omega (arith, register_length b, word_length c h))
operands_length store a b c h = simp length-append (omega (arith, register_length a, register_length b, word_length c h))
operands_length load a b c h = simp length-append (omega (arith, register_length a, register_length b, word_length c h))
operands_length target a b c h = omega (arith, word_length c h)
operands_length single a b c h = omega (arith, register_length a)

unfoldable longest_row : List (List String) → ℕ
longest_row [] = 0
longest_row (r ∷ t) = max (longest r) (longest_row t)

row_short : (t : List (List String)) (k : ℕ) → longest (get_or t k []) ≤ longest_row t
unfolding longest_row longest
row_short [] k = omega arith
row_short (r ∷ t) zero = omega arith
row_short (r ∷ t) (suc k) = omega (arith, row_short t k)

pub mnemonic_length : (code f : ℕ) → length (mnemonic code f) ≤ 6
unfolding mnemonic mnemonics longest_row longest bytes
mnemonic_length code f =
    let most : longest_row mnemonics ≡ 6 = refl in
    omega (arith, at_most_longest (get_or mnemonics code []) f, row_short mnemonics code)

module _ (m : Memory) (a : ℕ) (b : (i : ℕ) → Fits w8 (get_or m.bytes i 0)) where
  constant_small : (there_at m a).constant < 2 ^ 64
  unfolding aok_at
  constant_small = go (ltb 8 (row_of (M₁ m a / 16)).size) (number_below m.bytes b 8 (a + ((row_of (M₁ m a / 16)).size - 8)))
    where
      go : (t : Bool) {n : ℕ} → n < 256 ^ 8 → cond t n 0 < 2 ^ 64
      go true h = omega arith
      go false h = omega arith

  pub remark_length : length (remark aok (there_at m a)) ≤ 48
  unfolding remark
  remark_length =
      let i = there_at m a in
      simp length-append
      (omega (arith, mnemonic_length i.code i.function, operands_length (get_or operands_of i.code nothing) i.ra i.rb i.constant constant_small))

  note_length : (w : Bool) → length (remarked (noted w (there_at m a))) ≤ 49
  unfolding remarked aok_at
  note_length true = omega (arith, remark_length)
  note_length false = omega arith

  pub line_length : (n : ℕ) (w : Bool) → n ≤ 10 → length (line (line_of a (take n (drop a m.bytes)) (noted w (there_at m a))) ++ line_feed ∷ []) ≤ 90
  unfolding line
  line_length n w h =
      let l : length (take n (drop a m.bytes)) ≤ n = simp length-take (omega arith) in
      simp length-append (omega (arith, address_length a, pairs_length (take n (drop a m.bytes)), note_length w))

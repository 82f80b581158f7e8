-- One law for each way out of a function. Assumes nothing.
use mathlib.Core.Path.{◌≡◌, refl, ap, sym, ◌∙◌}
use mathlib.Core.Bool.{Bool, true, false, ◌&&◌, ◌||◌}
use mathlib.Core.List.{[], ◌∷◌}
use Prim.Native.Nat.{ℕ, zero, suc, ◌+◌, ◌*◌, ◌/◌, ◌%◌, ◌^◌, ◌≤◌, ◌<◌}
use Rattle.std.proofs.Math.Nat.{div-div-eq-div-mul}
use Rattle.std.proofs.Common.{pow-suc}
use native.Mathlib.Nat.{lt_of_not-le}
use native.Mathlib.Omega.{arith}
use lib.Dec.{T, ltb, leb}
use borrow.Author.Tests.{le-leb, lt-leb, leb-false}
use Rattle.machine.specs.Table.{RegisterByte, row_of, unknown_code}
use Rattle.machine.specs.Fetch.{names_a, names_b, half}
use Rattle.laws.specs.Tests.{neither}
use Rattle.published.specs.Lengths.{no_functions}
use Rattle.std.specs.Int.{w64, byte_at, bytes_low_first, to_le_bytes}
use Rattle.encoding.specs.Encode.{Fields, encode_refused, least_first, pair}
use Rattle.encoding.specs.Back.{a_small, b_small, function_small}

-- REFUSAL 5
module _ (i : Fields) where
  pub no_such_function : (n : ℕ) → n ≡ (row_of i.code).functions → n ≤ i.function → true ≡ encode_refused i
  unfolding encode_refused
  no_such_function n e h = rw (le-leb (row_of i.code).functions i.function (omega arith)) refl

  pub no_such_code : 16 ≤ i.code → true ≡ encode_refused i
  no_such_code h = no_such_function 0 (sym (no_functions i.code (omega arith))) (omega arith)

  pub by_registers : (n : ℕ) (y : RegisterByte) (a b : Bool) → n ≡ (row_of i.code).functions → i.function < n → y ≡ (row_of i.code).byte → a ≡ names_a y
      → b ≡ names_b y → (a && ltb 14 i.ra) || (b && ltb 14 i.rb) ≡ encode_refused i
  unfolding encode_refused
  by_registers n y a b e h f p q = cc (lt-leb (row_of i.code).functions i.function (omega arith))

half_small : (t : Bool) (x : ℕ) → (T t → x < 15) → half t x < 16
unfolding half
half_small true x h = omega (arith, h tt)
half_small false x h = omega arith

-- what is not refused is small
pub record Small (i : Fields) : Type 0 where
  pub code : i.code < unknown_code
  pub function : i.function < 16
  pub high : half (names_a (row_of i.code).byte) i.ra < 16
  pub low : half (names_b (row_of i.code).byte) i.rb < 16

pub small : (i : Fields) → encode_refused i ≡ false → Small i
unfolding encode_refused
small i valid =
    record {
      code =
          lt_of_not-le
          (λ h. omega (arith, leb-false (row_of i.code).functions i.function (neither (leb (row_of i.code).functions i.function) _ valid).0, no_functions i.code h));
      function = function_small i valid;
      high = half_small (names_a (row_of i.code).byte) i.ra (a_small i valid);
      low = half_small (names_b (row_of i.code).byte) i.rb (b_small i valid);
    }

-- THE REGISTER BYTE
module _ (y z : RegisterByte) (is : z ≡ y) (ra rb : ℕ) (s t : Bool) (hs : s ≡ names_a z) (ht : t ≡ names_b z) where
  pub pair_small : (high low : ℕ) → high ≡ half s ra → low ≡ half t rb → half (names_a y) ra < 16 → half (names_b y) rb < 16 → 16 * high + low < 256
  pair_small high low p q h l =
      let x : half s ra ≡ half (names_a y) ra = cc in
      let z : half t rb ≡ half (names_b y) rb = cc in
      omega arith

  pub one_pair : (high low : ℕ) → s || t ≡ true → high ≡ half s ra → low ≡ half t rb → (16 * high + low) ∷ [] ≡ pair y ra rb
  unfolding pair
  one_pair high low e p q = cc

  pub no_pair : s || t ≡ false → [] ≡ pair y ra rb
  unfolding pair
  no_pair e = cc

-- THE CONSTANT: its bytes as the library gives them
low_first : (i k n : ℕ) → bytes_low_first i k n ≡ least_first k (n / 256 ^ i)
unfolding least_first
low_first i zero n = refl
low_first i (suc k) n =
    let first : byte_at i n ≡ n / 256 ^ i % 256 = byte_is i in
    let next : n / 256 ^ suc i ≡ n / 256 ^ i / 256 = rw (pow-suc 256 i, ← div-div-eq-div-mul n (256 ^ i) 256) refl in
    cc (low_first (suc i) k n)
  where
    byte_is : (j : ℕ) → byte_at j n ≡ n / 256 ^ j % 256
    byte_is zero = omega arith
    byte_is (suc j) = refl

pub constant_bytes : (v : ℕ) → to_le_bytes w64 v ≡ least_first 8 v
constant_bytes v = low_first 0 8 v ∙ ap (least_first 8) (omega arith)

-- Digits and numbers: one law for each way out, and for each turn of a loop. Assumes nothing.
use mathlib.Core.Path.{◌≡◌, refl, ap, sym, ◌∙◌}
use mathlib.Core.List.{List}
use Prim.Native.Nat.{ℕ, suc, ◌+◌, ◌*◌, ◌^◌, ◌≤◌, ◌<◌}
use native.Mathlib.Omega.{arith}
use native.Mathlib.Nat.{pow-le-pow_right, pow-succ'}
use native.Mathlib.Numerals.{add-one}
use lib.ListN.{length, drop, get_or, drop_of_length-le}
use lib.Seq.{drop-cons}
use Rattle.text.specs.Hex.{hex_value, hex_from, hex_number}

-- THE NUMBER: n is what the first k digits make
pub record Counted (s : List ℕ) (n k : ℕ) : Type 0 where
  pub rest : hex_number s ≡ hex_from n (drop k s)
  pub small : n < 16 ^ k

pub counted_none : (s : List ℕ) → Counted s 0 0
unfolding hex_number
counted_none s = record { rest = refl; small = omega arith }

-- sixteen times a number of up to fifteen digits, and one digit more, is below 2^64
pub room : (n k : ℕ) → n < 16 ^ k → k < 16 → 16 * n + 15 < 2 ^ 64
room n k h lt =
    let p : 16 ^ k ≤ 16 ^ 15 = pow-le-pow_right {n = 16} (omega arith) {i = k} {j = 15} (omega arith) in
    omega arith

module _ (s : List ℕ) (n k : ℕ) (h : Counted s n k) where
  pub all_counted : length s ≤ k → n ≡ hex_number s
  unfolding hex_from
  all_counted q = sym (h.rest ∙ ap (hex_from n) (drop_of_length-le s q))

  pub counted_more : (v : ℕ) → k < length s → v ≡ hex_value (get_or s k 0) → v < 16 → Counted s (16 * n + v) (k + 1)
  unfolding hex_from
  counted_more v lt e f =
      record {
        rest = rw (add-one k) (h.rest ∙ (ap (hex_from n) (drop-cons s k 0 lt) ∙ ap (λ (x : ℕ). hex_from (16 * n + x) (drop (suc k) s)) (sym e)));
        small = omega (arith, h.small, ap (λ (x : ℕ). 16 ^ x) (add-one k) ∙ pow-succ' 16 k);
      }

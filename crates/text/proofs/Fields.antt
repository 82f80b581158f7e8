-- Decimal fields: one law for each way out of a reader. Assumes nothing.
use mathlib.Core.Bool.{Bool, true, false, cond}
use mathlib.Core.List.{List, ◌∷◌}
use mathlib.Core.Path.{◌≡◌, refl, sym, ap, ◌∙◌}
use Prim.Native.Nat.{ℕ, ◌+◌, ◌-◌, ◌*◌, ◌^◌, ◌≤◌, ◌<◌}
use native.Mathlib.Numerals.{add-one}
use native.Mathlib.Omega.{arith}
use Rattle.std.proofs.Common.{add-zero}
use borrow.Author.Tests.{lt-ltb, le-ltb, ltb-true, ltb-false}
use lib.Dec.{ltb}
use lib.ListN.{length, get_or, take, drop, length-drop, drop_of_length-le, get_or-eq_default}
use lib.Seq.{drop-cons, take_all, length-take-le}
use Rattle.std.specs.Prelude.{None as no_number, Some as number}
use Rattle.text.specs.Decimal.{is_digit}
use Rattle.text.specs.Field.{Field, starts_number, read_on}

-- THE START is inside
pub starts_inside : (t : List ℕ) (at : ℕ) → true ≡ starts_number t at → at < length t
unfolding starts_number
starts_inside t at e = go (ltb at (length t)) refl
  where
    go : (b : Bool) → ltb at (length t) ≡ b → at < length t
    go true q = ltb-true at (length t) q
    go false q = absurd (cc (rw (get_or-eq_default t 0 (ltb-false at (length t) q)) at e))

-- THE DIGITS of a text from `at` on, with i of them read
pub digits_none : (t : List ℕ) (at : ℕ) → at ≤ length t → read_on 0 (at + 0) (take (length t - at) (drop at t)) ≡ read_on 0 at (drop at t)
digits_none t at h = rw (add-zero, take_all (length t - at) (drop at t) (omega (arith, length-drop at t)))

module _ (s : List ℕ) (k i v : ℕ) (x : Field) (e : read_on v (k + i) (drop i s) ≡ x) where
  pub digits_over : length s ≤ i → number (v, k + i) ≡ x
  unfolding read_on
  digits_over h = rw (drop_of_length-le s h) at e

  module _ (h : i < length s) where
    step : cond (is_digit (get_or s i 0)) (cond (ltb (10 * v + (get_or s i 0 - 48)) (2 ^ 64)) (read_on (10 * v + (get_or s i 0 - 48)) (k + (i + 1)) (drop (i + 1) s)) no_number) (number (v, k + i)) ≡ x
    unfolding read_on
    step =
        let first : drop i s ≡ get_or s i 0 ∷ drop (i + 1) s = drop-cons s i 0 h ∙ ap (λ (j : ℕ). get_or s i 0 ∷ drop j s) (sym (add-one i)) in
        let next : k + i + 1 ≡ k + (i + 1) = omega arith in
        rw (first, next) at e

    pub digit_none : is_digit (get_or s i 0) ≡ false → number (v, k + i) ≡ x
    digit_none d = rw d at step

    module _ (d : is_digit (get_or s i 0) ≡ true) where
      pub digit_large : 2 ^ 64 ≤ 10 * v + (get_or s i 0 - 48) → no_number ≡ x
      digit_large l = rw (d, le-ltb (10 * v + (get_or s i 0 - 48)) (2 ^ 64) l) at step

      pub digit_more : (w : ℕ) → w ≡ 10 * v + (get_or s i 0 - 48) → w < 2 ^ 64 → read_on w (k + (i + 1)) (drop (i + 1) s) ≡ x
      digit_more w q l = rw q (rw (d, lt-ltb (10 * v + (get_or s i 0 - 48)) (2 ^ 64) (omega arith)) at step)

pub all_read : (t : List ℕ) (k i v : ℕ) {x : Field} → k ≤ length t → length (take (length t - k) (drop k t)) ≤ i → i ≤ length (take (length t - k) (drop k t))
    → read_on v (k + i) (drop i (take (length t - k) (drop k t))) ≡ x → number (v, length t) ≡ x
all_read t k i v {x} h p q e =
    let l : length (take (length t - k) (drop k t)) ≡ length t - k = length-take-le (length t - k) (drop k t) (omega (arith, length-drop k t)) in
    let m : length t ≡ k + i = omega arith in
    rw m (digits_over (take (length t - k) (drop k t)) k i v x e p)

-- A decimal field is read back as it was written, whatever stands before it, where no digit stands behind it. Assumes nothing.
use Rattle.std.specs.Prelude.{ℕ, zero, suc, ◌+◌, ◌-◌, ◌*◌, ◌^◌, ◌≤◌, ◌<◌, Bool, true, false, not, ◌&&◌, ◌||◌, List, [], ◌∷◌, ◌++◌, ◌≡◌, refl, eqb}
use native.Mathlib.Omega.{arith}
use Rattle.std.proofs.Common.{◌∙◌}
use Rattle.std.proofs.Math.Path.{ap}
use borrow.Author.Tests.{lt-ltb, ne_eqb, eq-eqb}
use Rattle.std.proofs.Math.ListN.{length, get_or, length-append, get_or-append}
use Rattle.std.proofs.Math.Seq.{get_or-append-add, drop_at}
use Rattle.std.specs.Prelude.{Some as number}
use Rattle.text.specs.Decimal.{decimal, is_digit, all_digits, read_behind, decimal_one, decimal_some, decimal_digits, decimal_value, no_leading_zero}
use Rattle.text.specs.Field.{starts_number, read_on, field_at, ended_by, field_ended}

-- more digits make no number smaller
grows : (s : List ℕ) (v : ℕ) → v ≤ read_behind v s
unfolding read_behind
grows [] v = omega arith
grows (b ∷ s) v = omega (arith, grows s (10 * v + (b - 48)))

both : (a b : Bool) → a && b ≡ true → (a ≡ true) × (b ≡ true)
both true b e = (refl, e)
both false b e = (e, cc)

-- digits, and then a byte that is none
digits_read : (s : List ℕ) (end : ℕ) (rest : List ℕ) (v k : ℕ) → is_digit end ≡ false → all_digits s ≡ true → read_behind v s < 2 ^ 64
    → read_on v k (s ++ end ∷ rest) ≡ number (read_behind v s, k + length s)
unfolding read_on read_behind all_digits
digits_read [] end rest v k h d l =
    let p : k ≡ k + 0 = omega arith in
    rw h (ap (λ (j : ℕ). number (v, j)) p)
digits_read (b ∷ s) end rest v k h d l =
    let p = both (is_digit b) (all_digits s) d in
    let m = grows s (10 * v + (b - 48)) in
    let q : k + 1 + length s ≡ k + suc (length s) = omega arith in
    rw (p.0, lt-ltb (10 * v + (b - 48)) (2 ^ 64) (omega arith)) (digits_read s end rest (10 * v + (b - 48)) (k + 1) h p.1 l ∙ ap (λ (j : ℕ). number (read_behind (10 * v + (b - 48)) s, j)) q)

first_digit : (s t : List ℕ) → 0 < length s → all_digits s ≡ true → is_digit (get_or (s ++ t) 0 0) ≡ true
unfolding all_digits
first_digit [] t h d = absurd (omega arith)
first_digit (b ∷ s) t h d = (both (is_digit b) (all_digits s) d).0

-- no zero stands in front of a digit
no_zero : (n end : ℕ) (rest : List ℕ) → is_digit end ≡ false
    → not (eqb (get_or (decimal n ++ end ∷ rest) 0 0) 48) || not (is_digit (get_or (decimal n ++ end ∷ rest) 1 0)) ≡ true
no_zero zero end rest h = rw (decimal_one 0 (omega arith), h)
no_zero (suc n) end rest h =
    rw (get_or-append (decimal (suc n)) (end ∷ rest) 0 0 (decimal_some (suc n)), ne_eqb (get_or (decimal (suc n)) 0 0) 48 (λ e. omega (arith, no_leading_zero (suc n) (omega arith))))

module _ (front : List ℕ) (n end : ℕ) (rest : List ℕ) (small : n < 2 ^ 64) (h : is_digit end ≡ false) where
  starts : starts_number (front ++ (decimal n ++ end ∷ rest)) (length front) ≡ true
  unfolding starts_number
  starts =
      let z : length front + 0 ≡ length front = omega arith in
      let p : get_or (front ++ (decimal n ++ end ∷ rest)) (length front) 0 ≡ get_or (decimal n ++ end ∷ rest) 0 0 = rw z at (get_or-append-add front (decimal n ++ end ∷ rest) 0 0) in
      rw (p, get_or-append-add front (decimal n ++ end ∷ rest) 1 0, first_digit (decimal n) (end ∷ rest) (decimal_some n) (decimal_digits n)) (no_zero n end rest h)

  field_back : field_at (front ++ (decimal n ++ end ∷ rest)) (length front) ≡ number (n, length front + length (decimal n))
  unfolding field_at
  field_back =
      rw (starts, drop_at front (decimal n ++ end ∷ rest) (length front) refl)
      (digits_read (decimal n) end rest 0 (length front) h (decimal_digits n) (rw (decimal_value n) small) ∙ ap (λ (v : ℕ). number (v, length front + length (decimal n))) (decimal_value n))

  ends : get_or (front ++ (decimal n ++ end ∷ rest)) (length front + length (decimal n)) 0 ≡ end
  ends =
      let z : length (decimal n) + 0 ≡ length (decimal n) = omega arith in
      get_or-append-add front (decimal n ++ end ∷ rest) (length (decimal n)) 0 ∙ (rw z at (get_or-append-add (decimal n) (end ∷ rest) 0 0))

  -- THE LAW
  pub read_back : field_ended (front ++ (decimal n ++ end ∷ rest)) (length front) end ≡ number (n, length front + length (decimal n) + 1)
  unfolding field_ended ended_by
  read_back =
      let long : length front + length (decimal n) < length (front ++ (decimal n ++ end ∷ rest)) = simp length-append (omega arith) in
      rw (field_back, lt-ltb (length front + length (decimal n)) (length (front ++ (decimal n ++ end ∷ rest))) long, eq-eqb (get_or (front ++ (decimal n ++ end ∷ rest)) (length front + length (decimal n)) 0) end ends)

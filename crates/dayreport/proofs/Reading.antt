-- The image that a good first line asks for begins inside. Assumes nothing.
use Prim.Native.Nat.{ℕ, ◌+◌, ◌≤◌}
use native.Mathlib.Omega.{arith}
use mathlib.Core.Bool.{Bool, true, false, cond, ◌&&◌}
use mathlib.Core.List.{List}
use mathlib.Core.Path.{◌≡◌, refl, sym, ◌∙◌}
use borrow.Author.Tests.{ltb-true}
use lib.Dec.{ltb, eqb}
use lib.ListN.{length, get_or}
use Rattle.std.specs.Prelude.{None as no_number, Some as number}
use Rattle.std.specs.Prelude.{Some as asks}
use Rattle.std.proofs.lemmas.Option.{some_pair_parts}
use Rattle.text.specs.Field.{Field, field_at, ended_by, field_ended}
use Rattle.dayreport.specs.declared.line.Request.{Request}
use Rattle.dayreport.specs.Line.{FirstLine, third_of, second_of, first_of, first_line}

-- a field ends inside the text
first_true : (a b : Bool) → a && b ≡ true → a ≡ true
first_true true b e = refl
first_true false b e = e

ends_inside : (t : List ℕ) (end : ℕ) (f : Field) (v k : ℕ) → ended_by t end f ≡ number (v, k) → k ≤ length t
unfolding ended_by
ends_inside t end no_number v k e = absurd (cc)
ends_inside t end (number (w, n)) v k e = by (ltb n (length t) && eqb (get_or t n 0) end) refl e
  where
    by : (s : Bool) → ltb n (length t) && eqb (get_or t n 0) end ≡ s → cond {A = Field} s (number (w, n + 1)) no_number ≡ number (v, k) → k ≤ length t
    by true q p =
        let z : n + 1 ≡ k = (some_pair_parts w v (n + 1) k p).1 in
        omega (arith, ltb-true n (length t) (first_true (ltb n (length t)) (eqb (get_or t n 0) end) q))
    by false q p = absurd (cc)

module _ (t : List ℕ) (q : Request) where
  third : (table size b : ℕ) (k : Field) → field_ended t b 10 ≡ k → third_of table size k ≡ asks q → q.image ≤ length t
  unfolding third_of field_ended
  third table size b no_number i e = absurd (cc)
  third table size b (number (v, k)) i e =
      let z : k ≡ q.image = cc in
      omega (arith, ends_inside t 10 (field_at t b) v k i)

  second : (table : ℕ) (g : Field) → second_of t table g ≡ asks q → q.image ≤ length t
  unfolding second_of
  second table no_number e = absurd (cc)
  second table (number (size, b)) e = third table size b (field_ended t b 10) refl e

  first : (f : Field) → first_of t f ≡ asks q → q.image ≤ length t
  unfolding first_of
  first no_number e = absurd (cc)
  first (number (table, a)) e = second table (field_ended t a 9) e

  pub image_inside : (l : FirstLine) → l ≡ first_line t → l ≡ asks q → q.image ≤ length t
  unfolding first_line
  image_inside l h e = first (field_ended t 0 9) (sym h ∙ e)

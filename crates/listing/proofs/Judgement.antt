-- The judgement, line by line. Assumes nothing.
use mathlib.Core.Path.{◌≡◌, refl, ap, sym, subst, ◌∙◌}
use mathlib.Core.Bool.{Bool, true, false, ◌||◌}
use mathlib.Core.List.{[], ◌∷◌, ◌++◌}
use Prim.Native.Nat.{ℕ, zero, suc, ◌+◌, ◌-◌, ◌≤◌, ◌<◌}
use native.Mathlib.Omega.{arith}
use native.Mathlib.Numerals.{add-one}
use lib.ListN.{length, drop, get_or, drop_of_length-le}
use lib.Seq.{drop-cons, get_or-append_seam}
use lib.Dec.{eqb}
use Rattle.std.proofs.Common.{length-append, eq-eqb}
use Rattle.text.specs.Parts.{Text, has, before, behind, line_feed, lines}
use Rattle.text.specs.PartsLaws.{FedLast, fed_last, parted, before_whole, before_shorter, has_there, has_nowhere}
use Rattle.listing.specs.Reading.{Kind, Checked, right, wrong, good, faulty, checked, goes_on, judged, verdict}

-- ONE LINE, where n is the place of its line feed
pub not_ended : (l : Text) (n : ℕ) → n ≡ length (before line_feed l) → length l ≤ n → has line_feed l ≡ false
not_ended l n h q = has_nowhere line_feed l (omega arith)

pub is_ended : (l : Text) (n : ℕ) → n ≡ length (before line_feed l) → n < length l → has line_feed l ≡ true
is_ended l n h q = has_there line_feed l (omega arith)

-- ITS END, by the last byte
has_at : (c : ℕ) (t : Text) (i : ℕ) → i < length t → get_or t i 0 ≡ c → has c t ≡ true
unfolding has
has_at c [] i h e = absurd (omega arith)
has_at c (x ∷ t) zero h e = rw (eq-eqb x c e) refl
has_at c (x ∷ t) (suc i) h e = go (eqb x c) (has_at c t i (omega arith) e)
  where
    go : (b : Bool) → has c t ≡ true → b || has c t ≡ true
    go true q = refl
    go false q = q

pub line_fed : (text line : Text) (n : ℕ) → (n < length (lines text)) × (line ≡ get_or (lines text) n line) → FedLast line
line_fed text line n t = subst FedLast (sym t.1) (fed_last text n line t.0)

pub end_empty : (l : Text) → length l ≡ 0 → length l ≡ length (before line_feed l)
end_empty l h = omega (arith, before_shorter line_feed l)

module _ (l : Text) (f : FedLast l) where
  -- a line that has a line feed has it last
  fed : has line_feed l ≡ true → (length l ≡ length (before line_feed l) + 1) × (get_or l (length l - 1) 0 ≡ line_feed)
  fed e =
      let p = parted line_feed l e in
      let n : length l ≡ length (before line_feed l) + 1 = omega (arith, f, simp length-append at (ap length p)) in
      let m : length l - 1 ≡ length (before line_feed l) = omega arith in
      (n, rw m (ap (λ (t : Text). get_or t (length (before line_feed l)) 0) p ∙ get_or-append_seam (before line_feed l) line_feed (behind line_feed l) 0))

  pub end_fed : 0 < length l → get_or l (length l - 1) 0 ≡ line_feed → length l - 1 ≡ length (before line_feed l)
  end_fed h e = let q = fed (has_at line_feed l (length l - 1) (omega arith) e) in omega (arith, q.0)

  pub end_unfed : (get_or l (length l - 1) 0 ≡ line_feed → ⊥) → length l ≡ length (before line_feed l)
  end_unfed h = go (has line_feed l) refl
    where
      go : (b : Bool) → has line_feed l ≡ b → length l ≡ length (before line_feed l)
      go true e = absurd (h (fed e).1)
      go false e = ap length (sym (before_whole line_feed l e))

-- THE LOOP: what is judged of the text is what is judged of the lines that are left
pub record Judges (size : ℕ) (text : Text) (n free : ℕ) : Type 0 where
  pub rest : verdict size text ≡ judged size free (n + 1) (drop n (lines text))

pub judges_none : (size : ℕ) (text : Text) → Judges size text 0 0
unfolding verdict
judges_none size text = record { rest = refl }

module _ (size : ℕ) (text : Text) (n free : ℕ) (h : Judges size text n free) where
  pub judges_all : n ≡ length (lines text) → good ≡ verdict size text
  unfolding judged
  judges_all q = sym (h.rest ∙ ap (judged size free (n + 1)) (drop_of_length-le (lines text) (omega arith)))

  module _ (line : Text) (t : (n < length (lines text)) × (line ≡ get_or (lines text) n line)) (k : Checked) (e : k ≡ checked size free line) where
    by_line : verdict size text ≡ goes_on k (n + 1) (λ next. judged size next (n + 1 + 1) (drop (n + 1) (lines text)))
    unfolding judged
    by_line = h.rest ∙ rw (drop-cons (lines text) n line t.0, ← t.1, ← e, add-one n) refl

    pub wrong_line : (kind : Kind) → k ≡ wrong kind → faulty (n + 1) kind ≡ verdict size text
    unfolding goes_on
    wrong_line kind w = sym (by_line ∙ rw w refl)

    pub judges_more : (next : ℕ) → k ≡ right next → Judges size text (n + 1) next
    unfolding goes_on
    judges_more next w = record { rest = by_line ∙ rw w refl }

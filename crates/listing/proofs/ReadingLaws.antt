-- Laws of the reading. Assumes nothing.
use Rattle.std.specs.Prelude.{◌≡◌, refl, Bool, true, false, cond, [], ◌∷◌, ◌++◌, ℕ, ◌+◌, ◌≤◌, ltb, length}
use Rattle.std.proofs.Common.{ap, ltb-false}
use Rattle.laws.specs.Tests.{neither}
use Rattle.text.specs.Parts.{Text, has, before, behind, line_feed, lines}
use Rattle.text.specs.PartsLaws.{has_joined, has_before, before_joined, lines_first, lines_last}
use Rattle.listing.specs.Grammar.{Record, address_of, end_of}
use Rattle.listing.specs.Reading.{Kind, Checked, Reading, form, right, wrong, good, faulty, record_of, records, lowest_kind, missing, malformed}
use Rattle.listing.specs.Reading.{miscounted, in_place, fault, checked, goes_on, judged}
use Rattle.listing.specs.ReadingLaws.{Fine}

-- ONE LINE
-- a line that is ended
pub ended : (l : Text) → has line_feed l ≡ false → (size free : ℕ) → checked size free (l ++ line_feed ∷ []) ≡ fault size free (record_of l)
unfolding has checked
ended l h size free = rw (has_joined line_feed l (line_feed ∷ []), h, before_joined line_feed l [] h)

-- a text that has a line feed is judged by its first line, and then on
pub judged_first : (size free n : ℕ) (t : Text) → has line_feed t ≡ true
    → judged size free n (lines t) ≡ goes_on (fault size free (record_of (before line_feed t))) n (λ next. judged size next (n + 1) (lines (behind line_feed t)))
unfolding judged
judged_first size free n t h =
    rw (lines_first t h) (ap (λ (x : Checked). goes_on x n (λ next. judged size next (n + 1) (lines (behind line_feed t)))) (ended (before line_feed t)
    (has_before line_feed t) size free))

pub records_first : (t : Text) → has line_feed t ≡ true → records (lines t) ≡ record_of (before line_feed t) ∷ records (lines (behind line_feed t))
unfolding records
records_first t h = rw (lines_first t h) (rw (before_joined line_feed (before line_feed t) [] (has_before line_feed t)))

-- a last line without its line feed
pub judged_last : (size free n x : ℕ) (t : Text) → has line_feed (x ∷ t) ≡ false → judged size free n (lines (x ∷ t)) ≡ faulty n form
unfolding judged goes_on checked
judged_last size free n x t h = rw (lines_last x t h) (rw h)

-- what is judged good went on
pub went_on : (k : Checked) (n : ℕ) (f : ℕ → Reading) → goes_on k n f ≡ good → (next : ℕ) × (k ≡ right next) × (f next ≡ good)
unfolding goes_on
went_on (right next) n f h = (next, refl, h)
went_on (wrong k) n f h = absurd (cc)

-- A RIGHT LINE: no test holds
passes : (t : Bool) (k : Kind) (x : Checked) (next : ℕ) → cond t (wrong k) x ≡ right next → (t ≡ false) × (x ≡ right next)
passes true k x next h = absurd (cc)
passes false k x next h = (refl, h)

pub fine : (size free : ℕ) (r : Record) (next : ℕ) → fault size free r ≡ right next → Fine size free r next
unfolding fault lowest_kind in_place
fine size free r next h =
    let p1 = passes (malformed r) form _ next h in
    let p2 = passes (miscounted r) _ _ next p1.1 in
    let p3 = passes (ltb (address_of r) free) _ _ next p2.1 in
    let p4 = passes (ltb size (end_of r)) _ _ next p3.1 in
    let e : end_of r ≡ next = cc in
    record {
      formed = p1.0;
      counted = p2.0;
      above = ltb-false (address_of r) free p3.0;
      within = ltb-false size (end_of r) p4.0;
      then = e;
    }

pub short_address : (r : Record) → malformed r ≡ false → length r.address ≤ 16
unfolding malformed
short_address r h =
    let p = neither (missing r.address) _ h in
    ltb-false 16 (length r.address) (neither (missing r.bytes) _ p.1).1

-- "The first faulty line is refused with its number (from 1) and one of these kinds, lowest winning" (#103): each text is accepted or has one
-- first faulty line, with one kind, the lowest whose test holds. Assumes nothing.
use Rattle.std.specs.Prelude.{◌≡◌, refl, Bool, true, false, List, [], ◌∷◌, ℕ, ◌+◌, ◌<◌, ltb}
use Rattle.std.proofs.Common.{sym, ap, ◌∙◌, subst, subst₂, arith}
use Rattle.text.specs.Parts.{Text, has, before, line_feed, lines}
use Rattle.listing.specs.Grammar.{Record, address_of, end_of}
use Rattle.listing.specs.Reading.{Kind, form, count, order, beyond, kind_number, Checked, right, wrong, Reading, good, faulty, record_of, lowest_kind}
use Rattle.listing.specs.Reading.{malformed, miscounted, in_place, fault, checked, goes_on, judged, verdict}
use Rattle.listing.specs.Faults.{holds, Lowest, FirstFault, unended, here, later, Judged, accepted, faulted}

-- the four tests, by kind
abbrev pick : (a b c d : Bool) → Kind → Bool
pick a b c d form = a
pick a b c d count = b
pick a b c d order = c
pick a b c d beyond = d

abbrev Picked : (a b c d : Bool) → Kind → Type 0
Picked a b c d k = (pick a b c d k ≡ true) × ((j : Kind) → kind_number j < kind_number k → pick a b c d j ≡ false)

below_form : (a b c d : Bool) (j : Kind) → kind_number j < kind_number form → pick a b c d j ≡ false
unfolding kind_number
below_form a b c d form l = absurd (omega arith)
below_form a b c d count l = absurd (omega arith)
below_form a b c d order l = absurd (omega arith)
below_form a b c d beyond l = absurd (omega arith)

below_count : (b c d : Bool) (j : Kind) → kind_number j < kind_number count → pick false b c d j ≡ false
unfolding kind_number
below_count b c d form l = refl
below_count b c d count l = absurd (omega arith)
below_count b c d order l = absurd (omega arith)
below_count b c d beyond l = absurd (omega arith)

below_order : (c d : Bool) (j : Kind) → kind_number j < kind_number order → pick false false c d j ≡ false
unfolding kind_number
below_order c d form l = refl
below_order c d count l = refl
below_order c d order l = absurd (omega arith)
below_order c d beyond l = absurd (omega arith)

below_beyond : (d : Bool) (j : Kind) → kind_number j < kind_number beyond → pick false false false d j ≡ false
unfolding kind_number
below_beyond d form l = refl
below_beyond d count l = refl
below_beyond d order l = refl
below_beyond d beyond l = absurd (omega arith)

the_first : (a b c d : Bool) (n : ℕ) (k : Kind) → lowest_kind ((form, a) ∷ (count, b) ∷ (order, c) ∷ (beyond, d) ∷ []) n ≡ wrong k → Picked a b c d k
unfolding lowest_kind
the_first true b c d n k h =
    let e : form ≡ k = cc in
    subst (Picked true b c d) e (refl, below_form true b c d)
the_first false true c d n k h =
    let e : count ≡ k = cc in
    subst (Picked false true c d) e (refl, below_count true c d)
the_first false false true d n k h =
    let e : order ≡ k = cc in
    subst (Picked false false true d) e (refl, below_order true d)
the_first false false false true n k h =
    let e : beyond ≡ k = cc in
    subst (Picked false false false true) e (refl, below_beyond true)
the_first false false false false n k h = absurd (cc)

same_tests : (size free : ℕ) (r : Record) (k : Kind) → holds size free r k ≡ pick (malformed r) (miscounted r) (ltb (address_of r) free) (ltb size (end_of r)) k
unfolding holds
same_tests size free r form = refl
same_tests size free r count = refl
same_tests size free r order = refl
same_tests size free r beyond = refl

pub lowest_wins : (size free : ℕ) (r : Record) (k : Kind) → fault size free r ≡ wrong k → Lowest size free r k
unfolding fault in_place
lowest_wins size free r k h =
    let p = the_first (malformed r) (miscounted r) (ltb (address_of r) free) (ltb size (end_of r)) (end_of r) k h in
    record { this = same_tests size free r k ∙ p.0; none_lower = λ j l. same_tests size free r j ∙ p.1 j l }

-- what is refused has such a line, with that number and kind
at_once : (size free m : ℕ) (l : Text) (ls : List Text) (k : Kind) → checked size free l ≡ wrong k → FirstFault size free m (l ∷ ls) m k
unfolding checked
at_once size free m l ls k e = go (has line_feed l) refl
  where
    go : (b : Bool) → has line_feed l ≡ b → FirstFault size free m (l ∷ ls) m k
    go true t = here t (lowest_wins size free (record_of (before line_feed l)) k (rw t at e))
    go false t =
        let w : wrong form ≡ wrong k = rw t at e in
        let f : form ≡ k = cc in
        subst (FirstFault size free m (l ∷ ls) m) f (unended t)

-- the line and the kind of a fault
abbrev line_of : Reading → ℕ
line_of (right u) = 0
line_of (wrong f) = f.line

abbrev kind_of : Kind → Reading → Kind
kind_of k (right u) = k
kind_of k (wrong f) = f.kind

pub refused_first : (size free m : ℕ) (ls : List Text) (n : ℕ) (k : Kind) → judged size free m ls ≡ faulty n k → FirstFault size free m ls n k
unfolding judged goes_on
refused_first size free m [] n k h = absurd (cc)
refused_first size free m (l ∷ ls) n k h = go (checked size free l) refl (λ next. refused_first size next (m + 1) ls n k)
  where
    go : (x : Checked) → checked size free l ≡ x → ((next : ℕ) → judged size next (m + 1) ls ≡ faulty n k → FirstFault size next (m + 1) ls n k)
        → FirstFault size free m (l ∷ ls) n k
    go (right next) e ih = later e (ih next (rw e at h))
    go (wrong j) e ih =
        let w : faulty m j ≡ faulty n k = rw e at h in
        let p : m ≡ n = ap line_of w in
        let q : j ≡ k = ap (kind_of j) w in
        subst₂ (FirstFault size free m (l ∷ ls)) p q (at_once size free m l ls j e)

-- and there is one only: whoever has such a line is refused with it
wins : (size free : ℕ) (r : Record) (k : Kind) → Lowest size free r k → fault size free r ≡ wrong k
unfolding fault lowest_kind in_place holds kind_number
wins size free r form w = rw w.this
wins size free r count w = rw (w.none_lower form (omega arith), w.this)
wins size free r order w = rw (w.none_lower form (omega arith), w.none_lower count (omega arith), w.this)
wins size free r beyond w = rw (w.none_lower form (omega arith), w.none_lower count (omega arith), w.none_lower order (omega arith), w.this)

pub first_refused : {size free m n : ℕ} {ls : List Text} {k : Kind} → FirstFault size free m ls n k → judged size free m ls ≡ faulty n k
unfolding judged goes_on checked
first_refused (unended h) = rw h
first_refused {size} {free} (here {l = l} {k = k} h w) = rw (h, wins size free (record_of (before line_feed l)) k w)
first_refused (later e f) = rw e (first_refused f)

pub one_fault : {size free m n i : ℕ} {ls : List Text} {k j : Kind} → FirstFault size free m ls n k → FirstFault size free m ls i j → (n ≡ i) × (k ≡ j)
one_fault {n = n} {i = i} {k = k} {j = j} f g =
    let e : faulty n k ≡ faulty i j = sym (first_refused f) ∙ first_refused g in
    (ap line_of e, ap (kind_of k) e)

pub either : (size : ℕ) (t : Text) → Judged size t
unfolding verdict
either size t = go (judged size 0 1 (lines t)) refl
  where
    go : (v : Reading) → judged size 0 1 (lines t) ≡ v → Judged size t
    go good e = accepted e
    go (wrong f) e = faulted f.line f.kind e (refused_first size 0 1 (lines t) f.line f.kind e)

-- "State the grammar apart from the reader, and show that each accepted text has one reading" (#103): what the reader accepts is exactly what
-- the grammar writes, and it is read as what it was written from. Assumes nothing.
use Rattle.std.specs.Prelude.{◌≡◌, refl, Bool, true, false, cond, not, List, [], ◌∷◌, ◌++◌, ℕ, zero, suc, ◌+◌, ◌*◌, ◌/◌, ◌%◌, ◌≤◌, eqb, length}
use Rattle.std.proofs.Common.{ap, sym, ◌∙◌, append-nil, arith, length-append, ltb-false, ne_eqb, le-ltb}
use Rattle.std.proofs.lemmas.Bool.{eqb-false, not-false}
use Rattle.laws.specs.Tests.{neither}
use Rattle.text.specs.Parts.{Text, has, before, behind, tab, line_feed, lines}
use Rattle.text.specs.PartsLaws.{parted, has_joined, has_before, before_whole, behind_none, before_joined, behind_joined, lines_joined}
use Rattle.text.specs.Hex.{is_hex, all_hex}
use Rattle.text.specs.HexLaws.{hex_without}
use Rattle.listing.specs.Grammar.{Remark, none, some, Record, remarked, line, written, address_of, end_of, WellFormed, Listing, end, more}
use Rattle.listing.specs.Reading.{right, good, record_of, records, lowest_kind, missing, malformed, miscounted, in_place, fault, checked, goes_on}
use Rattle.listing.specs.Reading.{judged, verdict}
use Rattle.listing.proofs.ReadingLaws.{ended, judged_first, judged_last, records_first, went_on, fine}
use Rattle.listing.specs.Accepted.{Accepted}

-- A FIELD that is there
there : (f : Text) → missing f ≡ false → (1 ≤ length f) × (all_hex f ≡ true)
unfolding missing
there f h =
    let p = neither (eqb (length f) 0) (not (all_hex f)) h in
    let n = eqb-false (length f) 0 p.0 in
    (omega arith, not-false (all_hex f) p.1)

not_missing : (f : Text) → 1 ≤ length f → all_hex f ≡ true → missing f ≡ false
unfolding missing
not_missing f h e = cc (ne_eqb (length f) 0 (omega arith))

-- A RECORD that no test meets is well formed, and the other way round
well : (r : Record) → malformed r ≡ false → miscounted r ≡ false → has line_feed (remarked r.remark) ≡ false → WellFormed r
unfolding malformed miscounted
well r h k l =
    let p = neither (missing r.address) _ h in
    let q = neither (missing r.bytes) _ p.1 in
    let a = there r.address p.0 in
    let b = there r.bytes q.0 in
    let u = neither (eqb (length r.bytes % 2) 1) _ k in
    let even = eqb-false (length r.bytes % 2) 1 u.0 in
    let few = ltb-false 32 (length r.bytes) u.1 in
    let short = ltb-false 16 (length r.address) q.1 in
    record {
      address_hex = a.1;
      address_digits = (a.0, short);
      bytes_hex = b.1;
      bytes_digits = (length r.bytes / 2, omega arith, omega (arith, b.0), omega arith);
      on_its_line = l;
    }

no_fault_lem : (size free : ℕ) (r : Record) → WellFormed r → free ≤ address_of r → end_of r ≤ size → fault size free r ≡ right (end_of r)
unfolding fault lowest_kind in_place malformed miscounted
no_fault_lem size free r w above within =
    let n = w.bytes_digits.0 in
    let twice : length r.bytes ≡ 2 * n = w.bytes_digits.1 in
    let some_bytes = w.bytes_digits.2 in
    let few = w.bytes_digits.3 in
    let a = w.address_digits in
    cc (
      not_missing r.address a.0 w.address_hex,
      not_missing r.bytes (omega arith) w.bytes_hex,
      le-ltb 16 (length r.address) a.1,
      ne_eqb (length r.bytes % 2) 1 (omega arith),
      le-ltb 32 (length r.bytes) (omega arith),
      le-ltb (address_of r) free above,
      le-ltb size (end_of r) within,
    )

-- A LINE is written from its fields
rest_written : (t : Text) → before tab t ++ remarked (cond (has tab t) (some (behind tab t)) none) ≡ t
unfolding remarked
rest_written t = go (has tab t) refl
  where
    go : (b : Bool) → has tab t ≡ b → before tab t ++ remarked (cond (has tab t) (some (behind tab t)) none) ≡ t
    go true e = rw e (sym (parted tab t e))
    go false e = rw e (append-nil (before tab t) ∙ before_whole tab t e)

line_written : (l : Text) → has tab l ≡ true → line (record_of l) ≡ l
unfolding line record_of
line_written l h = ap (λ (t : Text). before tab l ++ tab ∷ t) (rest_written (behind tab l)) ∙ sym (parted tab l h)

-- a line with a field of bytes has a tab
has_tab : (l : Text) → malformed (record_of l) ≡ false → has tab l ≡ true
unfolding malformed record_of before
has_tab l h = go (has tab l) refl
  where
    go : (b : Bool) → has tab l ≡ b → has tab l ≡ true
    go true e = e
    go false e =
        let p = neither (missing (before tab l)) _ h in
        let q = there (before tab (behind tab l)) (neither (missing (before tab (behind tab l))) _ p.1).0 in
        let none_there : length (before tab (behind tab l)) ≡ 0 = rw (behind_none tab l e) in
        absurd (omega (arith, q.0))

-- A LINE FEED OR A TAB stands in no field of digits
no_feed : is_hex line_feed ≡ false
unfolding is_hex
no_feed = refl

no_tab : is_hex tab ≡ false
unfolding is_hex
no_tab = refl

on_one_line : (r : Record) → WellFormed r → has line_feed (line r) ≡ false
unfolding line has
on_one_line r w =
    rw (
      has_joined line_feed r.address (tab ∷ (r.bytes ++ remarked r.remark)),
      hex_without line_feed no_feed r.address w.address_hex,
      has_joined line_feed r.bytes (remarked r.remark),
      hex_without line_feed no_feed r.bytes w.bytes_hex,
      w.on_its_line,
    )

-- WHAT WAS WRITTEN IS READ
rest_read : (b : Text) (m : Remark) → has tab b ≡ false
    → (before tab (b ++ remarked m) ≡ b) × (cond (has tab (b ++ remarked m)) (some (behind tab (b ++ remarked m))) none ≡ m)
unfolding remarked has
rest_read b none h = rw (append-nil b) (before_whole tab b h, rw h refl)
rest_read b (some s) h = (before_joined tab b s h, rw (has_joined tab b (tab ∷ s), h, behind_joined tab b s h) refl)

line_read : (r : Record) → WellFormed r → record_of (line r) ≡ r
unfolding record_of line
line_read r w =
    let rest = r.bytes ++ remarked r.remark in
    let ha = hex_without tab no_tab r.address w.address_hex in
    let p = rest_read r.bytes r.remark (hex_without tab no_tab r.bytes w.bytes_hex) in
    let e : behind tab (r.address ++ tab ∷ rest) ≡ rest = behind_joined tab r.address rest ha in
    let f : before tab (behind tab (r.address ++ tab ∷ rest)) ≡ r.bytes = ap (before tab) e ∙ p.0 in
    let g : cond (has tab (behind tab (r.address ++ tab ∷ rest))) (some (behind tab (behind tab (r.address ++ tab ∷ rest)))) none ≡ r.remark = ap (λ
    (t : Text). cond (has tab t) (some (behind tab t)) none) e ∙ p.1 in
    λ i. record { address = before_joined tab r.address rest ha i; bytes = f i; remark = g i }

-- a remark of a line without a line feed has none
remark_feedless : (r : Record) → has line_feed (line r) ≡ false → has line_feed (remarked r.remark) ≡ false
unfolding line has
remark_feedless r h =
    let p = neither (has line_feed r.address) _ (rw has_joined at h) in
    let q : has line_feed (r.bytes ++ remarked r.remark) ≡ false = p.1 in
    (neither (has line_feed r.bytes) _ (rw has_joined at q)).1

-- WHAT IS ACCEPTED was written from records that make a listing. n is at least the length
accepted : (n : ℕ) (t : Text) (size free number : ℕ) → length t ≤ n → judged size free number (lines t) ≡ good
    → Listing size free (records (lines t)) × (t ≡ written (records (lines t)))
unfolding lines records written
accepted zero [] size free number h g = (end, refl)
accepted (suc n) [] size free number h g = (end, refl)
accepted zero (x ∷ t) size free number h g = absurd (omega arith)
accepted (suc n) (x ∷ t) size free number h g = go (has line_feed (x ∷ t)) refl (accepted n)
  where
    go : (b : Bool) → has line_feed (x ∷ t) ≡ b
        → ((u : Text) (s f k : ℕ) → length u ≤ n → judged s f k (lines u) ≡ good → Listing s f (records (lines u)) × (u ≡ written (records (lines u))))
        → Listing size free (records (lines (x ∷ t))) × (x ∷ t ≡ written (records (lines (x ∷ t))))
    go true e ih =
        let whole = parted line_feed (x ∷ t) e in
        let l = before line_feed (x ∷ t) in
        let m = behind line_feed (x ∷ t) in
        let shorter : length m ≤ n = omega (arith, simp length-append at (ap length whole)) in
        let on = went_on (fault size free (record_of l)) number (λ next. judged size next (number + 1) (lines m)) (sym (judged_first size free number
        (x ∷ t) e) ∙ g) in
        let f = fine size free (record_of l) on.0 on.1 in
        let made = line_written l (has_tab l f.formed) in
        let inner = ih m size (end_of (record_of l)) (number + 1) shorter (rw f.then on.2) in
        let feedless : has line_feed (line (record_of l)) ≡ false = rw made (has_before line_feed (x ∷ t)) in
        let w = well (record_of l) f.formed f.counted (remark_feedless (record_of l) feedless) in
        rw (records_first (x ∷ t) e) (
          more w f.above f.within inner.0,
          whole ∙ (ap (λ (u : Text). u ++ line_feed ∷ m) (sym made)
              ∙ ap (λ (u : Text). line (record_of l) ++ line_feed ∷ u) inner.1),
        )
    go false e ih =
        let v = judged_last size free number x t e in
        absurd (cc)

pub accepted_written : (size : ℕ) (t : Text) → Accepted size t → Listing size 0 (records (lines t)) × (t ≡ written (records (lines t)))
unfolding verdict
accepted_written size t h = accepted (length t) t size 0 1 (omega arith) h

-- EVERY LISTING is accepted, and read as what it was written from
listing_judged : {size free : ℕ} {rs : List Record} (number : ℕ) → Listing size free rs
    → (judged size free number (lines (written rs)) ≡ good) × (records (lines (written rs)) ≡ rs)
unfolding written lines judged records goes_on
listing_judged number end = (refl, refl)
listing_judged {size} {free} number (more {r = r} {rs = rs} w above within rest) =
    let inner = listing_judged (number + 1) rest in
    let ls = lines_joined (line r) (written rs) (on_one_line r w) in
    let k : checked size free (line r ++ line_feed ∷ []) ≡ right (end_of r) = ended (line r) (on_one_line r w) size free
    ∙ (ap (fault size free) (line_read r w) ∙ no_fault_lem size free r w above within) in
    let one : record_of (before line_feed (line r ++ line_feed ∷ [])) ≡ r = ap record_of (before_joined line_feed (line r) [] (on_one_line r w)) ∙ line_read r w in
    (rw ls (rw k inner.0), rw ls (rw (one, inner.1)))

pub written_accepted : {size : ℕ} {rs : List Record} → Listing size 0 rs → Accepted size (written rs) × (records (lines (written rs)) ≡ rs)
unfolding verdict
written_accepted h = listing_judged 1 h

-- ONE READING
pub one_reading : {size : ℕ} {rs ss : List Record} → Listing size 0 rs → Listing size 0 ss → written rs ≡ written ss → rs ≡ ss
one_reading g h e = sym (written_accepted g).1 ∙ (ap (λ (t : Text). records (lines t)) e ∙ (written_accepted h).1)

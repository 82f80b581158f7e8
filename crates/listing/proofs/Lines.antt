-- A listing's lines laid into memory, one by one. Assumes nothing.
use mathlib.Core.Path.{◌≡◌, refl, ap, sym, ◌∙◌}
use mathlib.Core.Bool.{Bool, true, false}
use mathlib.Core.List.{List, [], ◌∷◌}
use Prim.Native.Nat.{ℕ, ◌+◌, ◌≤◌, ◌<◌}
use native.Mathlib.Omega.{arith}
use native.Mathlib.Numerals.{add-one}
use lib.ListN.{length, drop, get_or, drop_of_length-le}
use lib.Seq.{sets, length-sets, drop-cons}
use Rattle.text.specs.Parts.{Text, has, before, line_feed, lines}
use Rattle.listing.specs.Grammar.{Record, address_of, bytes_of, end_of, laid}
use Rattle.listing.specs.Reading.{right, good, record_of, records, fault, checked, judged, verdict}
use Rattle.listing.proofs.ReadingLaws.{went_on, fine, short_address}

pub laid_length : (rs : List Record) (m : List ℕ) → length (laid rs m) ≡ length m
unfolding laid
laid_length [] m = refl
laid_length (r ∷ rs) m = laid_length rs (sets m (address_of r) (bytes_of r)) ∙ length-sets m (address_of r) (bytes_of r)

-- LINE BY LINE: the lines that are left are judged good
-- a line that is right is ended
was_right : (size free : ℕ) (l : Text) (next : ℕ) → checked size free l ≡ right next → fault size free (record_of (before line_feed l)) ≡ right next
unfolding checked
was_right size free l next h = go (has line_feed l) refl
  where
    go : (b : Bool) → has line_feed l ≡ b → fault size free (record_of (before line_feed l)) ≡ right next
    go true e = rw e at h
    go false e = absurd (cc (rw e at h))

pub record Lays (text : Text) (m₀ m : List ℕ) (n : ℕ) : Type 0 where
  pub rest : laid (records (drop n (lines text))) m ≡ laid (records (lines text)) m₀
  pub long : length m ≡ length m₀
  pub free : ℕ
  pub number : ℕ
  pub still : judged (length m₀) free number (drop n (lines text)) ≡ good

pub lays_none : (text : Text) (m : List ℕ) → verdict (length m) text ≡ good → Lays text m m 0
unfolding verdict
lays_none text m h = record { rest = refl; long = refl; free = 0; number = 1; still = h }

module _ (text : Text) (m₀ m : List ℕ) (n : ℕ) (h : Lays text m₀ m n) where
  pub lays_all : n ≡ length (lines text) → m ≡ laid (records (lines text)) m₀
  unfolding laid records
  lays_all q = ap (λ (ls : List Text). laid (records ls) m) (sym (drop_of_length-le (lines text) (omega arith))) ∙ h.rest

  module _ (line : Text) (t : (n < length (lines text)) × (line ≡ get_or (lines text) n line)) where
    left : drop n (lines text) ≡ line ∷ drop (n + 1) (lines text)
    left = drop-cons (lines text) n line t.0 ∙ rw (← t.1, add-one n) refl

    goes : (next : ℕ) × (checked (length m₀) h.free line ≡ right next) × (judged (length m₀) next (h.number + 1) (drop (n + 1) (lines text)) ≡ good)
    unfolding judged
    goes =
        went_on (checked (length m₀) h.free line) h.number (λ next. judged (length m₀) next (h.number + 1) (drop (n + 1) (lines text)))
        (ap (judged (length m₀) h.free h.number) (sym left) ∙ h.still)

    pub lays_fits : (b : Text) → b ≡ before line_feed line → (length (record_of b).address ≤ 16) × (end_of (record_of b) ≤ length m)
    lays_fits b e =
        let f = fine (length m₀) h.free (record_of (before line_feed line)) goes.0 (was_right (length m₀) h.free line goes.0 goes.1) in
        rw e (short_address (record_of (before line_feed line)) f.formed, omega (arith, f.within, h.long))

    pub lays_more : (b m' : List ℕ) → b ≡ before line_feed line → m' ≡ laid (record_of b ∷ []) m → Lays text m₀ m' (n + 1)
    unfolding laid records
    lays_more b m' e p =
        record {
          rest = rw (p, e) (ap (λ (ls : List Text). laid (records ls) m) (sym left) ∙ h.rest);
          long = ap length p ∙ (laid_length (record_of b ∷ []) m ∙ h.long);
          free = goes.0;
          number = h.number + 1;
          still = goes.2;
        }

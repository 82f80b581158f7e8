-- "The first faulty line is refused with its number (from 1) and one of these kinds, lowest winning" (#103): what a first faulty line is. That each
-- text is accepted or has one is proved in proofs/Faults.antt.
use Rattle.std.specs.Prelude.{◌≡◌, Bool, true, false, List, ◌∷◌, ℕ, ◌+◌, ◌<◌, ltb}
use Rattle.text.specs.Parts.{Text, has, before, line_feed, lines}
use Rattle.listing.specs.Grammar.{Record, address_of, end_of}
use Rattle.listing.specs.Reading.{Kind, form, count, order, beyond, kind_number, right, good, faulty, record_of}
use Rattle.listing.specs.Reading.{malformed, miscounted, checked, verdict}

-- the test of each kind
unfoldable pub holds : (size free : ℕ) → Record → Kind → Bool
holds size free r form = malformed r
holds size free r count = miscounted r
holds size free r order = ltb (address_of r) free
holds size free r beyond = ltb size (end_of r)

-- the kind's test holds, and that of no lower kind
pub record Lowest (size free : ℕ) (r : Record) (k : Kind) : Type 0 where
  pub this : holds size free r k ≡ true
  pub none_lower : (j : Kind) → kind_number j < kind_number k → holds size free r j ≡ false

-- THE FIRST FAULTY LINE of these lines, of which the first has the number m: a line that has no line feed, or whose record has this kind; or one behind
-- a line that is right
pub data FirstFault (size : ℕ) : (free m : ℕ) → List Text → ℕ → Kind → Type 0 where
  unended : {free m : ℕ} {l : Text} {ls : List Text} → has line_feed l ≡ false → FirstFault size free m (l ∷ ls) m form
  here : {free m : ℕ} {l : Text} {ls : List Text} {k : Kind} → has line_feed l ≡ true → Lowest size free (record_of (before line_feed l)) k
      → FirstFault size free m (l ∷ ls) m k
  later : {free m next n : ℕ} {l : Text} {ls : List Text} {k : Kind} → checked size free l ≡ right next → FirstFault size next (m + 1) ls n k
      → FirstFault size free m (l ∷ ls) n k

-- a text is accepted, or has a first faulty line
pub data Judged (size : ℕ) (t : Text) : Type 0 where
  accepted : verdict size t ≡ good → Judged size t
  faulted : (n : ℕ) (k : Kind) → verdict size t ≡ faulty n k → FirstFault size 0 1 (lines t) n k → Judged size t

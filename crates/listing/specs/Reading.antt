-- How a text is read: its lines, their fields, the kind of a faulty line, and the answer.
use Rattle.std.specs.Prelude.{ℕ, ◌+◌, ◌%◌, Bool, cond, not, ◌||◌, List, [], ◌∷◌, eqb, ltb, length, Result}
use Rattle.machine.specs.Runs.{size_refused}
use Rattle.text.specs.Parts.{Text, has, before, behind, tab, line_feed, lines}
use Rattle.text.specs.Hex.{all_hex}
use Rattle.listing.specs.Grammar.{none, some, Record, address_of, end_of, image_of}
pub use Rattle.listing.specs.declared.Kind.{Kind}
pub use Rattle.listing.specs.declared.Kind.TheVariants.{Form as form, Count as count, Order as order, Beyond as beyond}
pub use Rattle.listing.specs.declared.Fault.{Fault}
pub use Rattle.listing.specs.declared.Unread.{Unread}
pub use Rattle.listing.specs.declared.Unread.TheVariants.{Refused as by_size, Faulty as faulted}
pub use Rattle.std.specs.Prelude.{Ok as right, Err as wrong}

-- a line that is right, with the first address behind its bytes; or its kind
abbrev pub Checked : Type 0
Checked = Result ℕ Kind

-- a text that is a listing; or its first faulty line, by its number from 1 and its kind
abbrev pub Reading : Type 0
Reading = Result Unit Fault

pattern abbrev pub good : Reading
good = right tt

abbrev pub faulty : ℕ → Kind → Reading
faulty n k = wrong (record { line = n; kind = k })

-- what the reader answers: that memory is the image, or why it is not
abbrev pub Answer : Type 0
Answer = Result Unit Unread

pattern abbrev pub refused : Answer
refused = wrong by_size

abbrev pub read_as : Reading → Answer
read_as good = right tt
read_as (wrong f) = wrong (faulted f)

-- document 02's numbers for the kinds
unfoldable pub kind_number : Kind → ℕ
kind_number form = 1
kind_number count = 2
kind_number order = 3
kind_number beyond = 4

-- THE FIELDS OF A LINE, without its line feed: address, bytes, and all the rest
unfoldable pub record_of : Text → Record
record_of l =
    let rest = behind tab l in
    record { address = before tab l; bytes = before tab rest; remark = cond (has tab rest) (some (behind tab rest)) none }

-- the records of these lines
unfoldable pub records : List Text → List Record
records [] = []
records (l ∷ ls) = record_of (before line_feed l) ∷ records ls

-- THE KIND OF A FAULTY LINE, "lowest winning": the first whose test holds, in lists that ascend; or right, with the first address behind its bytes
unfoldable pub lowest_kind : List (Kind × Bool) → ℕ → Checked
lowest_kind [] next = right next
lowest_kind (t ∷ ts) next = cond t.1 (wrong t.0) (lowest_kind ts next)

-- "a field missing or not hex"
unfoldable pub missing : Text → Bool
missing f = eqb (length f) 0 || not (all_hex f)

-- 1: "a field missing or not hex, or an address too long"
unfoldable pub malformed : Record → Bool
malformed r = missing r.address || (missing r.bytes || ltb 16 (length r.address))

-- 2: "odd digits or a wrong byte count"
unfoldable pub miscounted : Record → Bool
miscounted r = eqb (length r.bytes % 2) 1 || ltb 32 (length r.bytes)

-- 3: "address not above the last byte given", behind which free is the first address; 4: "beyond memory", without wrapping
unfoldable pub in_place : (size free address next : ℕ) → List (Kind × Bool)
in_place size free address next = (order, ltb address free) ∷ (beyond, ltb size next) ∷ []

unfoldable pub fault : (size free : ℕ) → Record → Checked
fault size free r = lowest_kind ((form, malformed r) ∷ (count, miscounted r) ∷ in_place size free (address_of r) (end_of r)) (end_of r)

-- "a last line without its line feed, is kind 1"
unfoldable pub checked : (size free : ℕ) → Text → Checked
checked size free l = cond (has line_feed l) (fault size free (record_of (before line_feed l))) (wrong form)

-- THE FIRST FAULTY LINE, "with its number (from 1)"
unfoldable pub goes_on : Checked → ℕ → (ℕ → Reading) → Reading
goes_on (right next) number rest = rest next
goes_on (wrong k) number rest = faulty number k

unfoldable pub judged : (size free number : ℕ) → List Text → Reading
judged size free number [] = good
judged size free number (l ∷ ls) = goes_on (checked size free l) number (λ next. judged size next (number + 1) ls)

unfoldable pub verdict : ℕ → Text → Reading
verdict size t = judged size 0 1 (lines t)

-- THE ANSWER, and what memory holds
pub record Answered : Type 0 where
  pub answer : Answer
  pub memory : List ℕ

abbrev pub answered : Answer → List ℕ → Answered
answered a m = record { answer = a; memory = m }

-- "A refusal leaves memory as it was, so the text is read fully before any byte is written."
unfoldable pub done : Reading → Text → List ℕ → Answered
done good t m = answered (read_as good) (image_of (length m) (records (lines t)))
done (wrong f) t m = answered (read_as (wrong f)) m

-- refusal 1 by the size of memory comes first
unfoldable pub listed : Text → List ℕ → Answered
listed t m = cond (size_refused (length m)) (answered refused m) (done (verdict (length m) t) t m)

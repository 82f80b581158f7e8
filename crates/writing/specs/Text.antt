-- "Write a listing from memory, a start and an end (not itself written): one instruction a line" (02, #104).
use Rattle.std.specs.Prelude.{ℕ, zero, suc, ◌+◌, ◌-◌, Bool, true, false, cond, not, ◌&&◌, ◌||◌, List, [], ◌∷◌, ltb, leb, take, drop}
use Rattle.machine.specs.declared.Instruction.{Instruction}
use Rattle.machine.specs.declared.Status.{Status}
use Rattle.machine.specs.declared.Status.TheVariants.{Aok as aok, Hlt as hlt, Adr as adr, Ins as ins}
use Rattle.machine.specs.Memory.{Memory}
use Rattle.machine.specs.Fetch.{size_at, fetch}
use Rattle.text.specs.Parts.{Text}
use Rattle.listing.specs.Grammar.{Remark, none, some, Record, written}
use Rattle.writing.specs.HexText.{hex_text, hex_pairs}
use Rattle.writing.specs.Remark.{remark}

-- "a byte that starts none (bad status at fetch, halt excepted)"
unfoldable pub starts : Status → Bool
starts aok = true
starts hlt = true
starts adr = false
starts ins = false

unfoldable pub starts_at : Memory → ℕ → Bool
starts_at m a = starts (fetch m a).status

-- the instruction's bytes end by the end of the range
unfoldable pub within_end : Memory → (a end : ℕ) → Bool
within_end m a end = leb (a + size_at m a) end

-- the line at a is an instruction, and no single byte; cut: an instruction before it crosses the end
unfoldable pub whole : (cut : Bool) → Memory → (a end : ℕ) → Bool
whole cut m a end = not cut && (starts_at m a && within_end m a end)

-- "An instruction that crosses the end becomes such one-byte lines up to the end."
unfoldable pub crosses : (cut : Bool) → Memory → (a end : ℕ) → Bool
crosses cut m a end = cut || (starts_at m a && not (within_end m a end))

unfoldable pub line_bytes : (cut : Bool) → Memory → (a end : ℕ) → ℕ
line_bytes cut m a end = cond (whole cut m a end) (size_at m a) 1

-- "a line of one byte without remark"
abbrev pub noted : (whole : Bool) → Instruction → Remark
noted w i = cond w (some (remark i.status i)) none

abbrev pub line_of : (address : ℕ) (bytes : List ℕ) → Remark → Record
line_of a b r = record { address = hex_text a; bytes = hex_pairs b; remark = r }

unfoldable pub line_at : (cut : Bool) → Memory → (a end : ℕ) → Record
line_at cut m a end = line_of a (take (line_bytes cut m a end) (drop a m.bytes)) (noted (whole cut m a end) (fetch m a))

-- the lines from a on, so many at most
unfoldable pub lines_from : (most : ℕ) → (cut : Bool) → Memory → (a end : ℕ) → List Record
lines_from zero cut m a end = []
lines_from (suc k) cut m a end =
    cond (ltb a end) (line_at cut m a end ∷ lines_from k (crosses cut m a end) m (a + line_bytes cut m a end) end) []

unfoldable pub listing_of : Memory → (start end : ℕ) → Text
listing_of m start end = written (lines_from (end - start) false m start end)

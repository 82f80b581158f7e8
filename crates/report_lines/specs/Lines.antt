-- Document 01's "Program": the lines that it writes, but for the registers'.
use Rattle.std.specs.Prelude.{ℕ, ◌+◌, ◌^◌, ◌<◌, ◌≤◌, ◌≡◌, refl, Bool, true, false, cond, List, ◌++◌, length}
use Rattle.std.proofs.Common.{arith, length-append}
use Prim.Native.String.{String}
use Rattle.machine.specs.declared.Codes.{Codes}
use Rattle.machine.specs.declared.Status.{Status}
use Rattle.machine.specs.declared.Status.TheVariants.{Aok as aok, Hlt as hlt, Adr as adr, Ins as ins}
use Rattle.clocked.specs.declared.Kinds.{Kinds}
use Rattle.clocked.specs.declared.Pipeline.{Pipeline}
use Rattle.machine.specs.Types.{codes_number}
use Rattle.text.specs.Bytes.{bytes}
use Rattle.text.specs.Decimal.{decimal, word_length}

-- "one tab after each name, a line end after each"
unfoldable pub line : (name value : List ℕ) → List ℕ
line name value = name ++ bytes "\t" ++ value ++ bytes "\n"

abbrev pub number_line : String → ℕ → List ℕ
number_line name n = line (bytes name) (decimal n)

unfoldable pub status_text : Status → String
status_text aok = "AOK"
status_text hlt = "HLT"
status_text adr = "ADR"
status_text ins = "INS"

unfoldable pub status_line : Status → List ℕ
status_line s = line (bytes "stat") (bytes (status_text s))

unfoldable pub count_lines : Pipeline → List ℕ
count_lines p =
    number_line "last" p.last
    ++ number_line "codes" (codes_number p.codes)
    ++ number_line "retired" p.retired
    ++ number_line "cycles" p.cycles

unfoldable pub kind_lines : Kinds → List ℕ
kind_lines k = number_line "loaduse" k.loaduse ++ number_line "mispredict" k.mispredict ++ number_line "return" k.returned

-- HOW LONG THEY ARE
pub line_length : (name value : List ℕ) → length (line name value) ≡ length name + length value + 2
unfolding line bytes
line_length name value = simp length-append (omega arith)

-- a word in decimal has at most 20 digits
pub number_length : (name : List ℕ) (v : ℕ) → v < 2 ^ 64 → length (line name (decimal v)) ≤ length name + 22
number_length name v h = omega (arith, line_length name (decimal v), word_length v h)

pub status_length : (s : Status) → length (status_line s) ≡ 9
unfolding status_line status_text line bytes
status_length aok = refl
status_length hlt = refl
status_length adr = refl
status_length ins = refl

bit_small : (b : Bool) → cond b 1 0 ≤ 1
bit_small true = omega arith
bit_small false = omega arith

codes_small : (c : Codes) → codes_number c ≤ 7
unfolding codes_number
codes_small c = omega (arith, bit_small c.zf, bit_small c.sf, bit_small c.of)

pub counts_length : (p : Pipeline) → p.last < 2 ^ 64 → p.retired < 2 ^ 64 → p.cycles < 2 ^ 64 → length (count_lines p) ≤ 110
unfolding count_lines bytes
counts_length p h i j =
    simp length-append
    (omega (
      arith,
      number_length (bytes "last") p.last h,
      number_length (bytes "codes") (codes_number p.codes) (omega (arith, codes_small p.codes)),
      number_length (bytes "retired") p.retired i,
      number_length (bytes "cycles") p.cycles j,
    ))

pub kinds_length : (k : Kinds) → k.loaduse < 2 ^ 64 → k.mispredict < 2 ^ 64 → k.returned < 2 ^ 64 → length (kind_lines k) ≤ 89
unfolding kind_lines bytes
kinds_length k h i j =
    simp length-append
    (omega (
      arith,
      number_length (bytes "loaduse") k.loaduse h,
      number_length (bytes "mispredict") k.mispredict i,
      number_length (bytes "return") k.returned j,
    ))

-- "Lengths are kept as one table of sixteen rows": a row has document 01's columns, and then document 003's stage table for that code
-- (halt and nop do nothing there, and cmovXX is its rrmovq under a condition).
use Rattle.std.specs.Prelude.{ℕ, ◌*◌, Bool, List, [], ◌∷◌, eqb, get_or}
use Rattle.machine.specs.Types.{Instruction}

-- what the register byte is: there is none; rA rB; F rB; rA F, where F is a filler
pub data RegisterByte : Type 0 where
  no_byte both_named only_b only_a : RegisterByte

-- which register a source or a target is
pub data Which : Type 0 where
  none r_a r_b rsp : Which

-- what execute computes: nothing, valB OP valA, valA, C, valB + C, valB - 8, valB + 8
pub data Computes : Type 0 where
  nothing b_op_a just_a just_c b_plus_c b_less8 b_plus8 : Computes

-- what sets the codes: nothing, valB OP valA, valB + C as addq's sum does (02, #101: iaddq "sets codes when and as addq does")
pub data Sets : Type 0 where
  no_codes by_op by_sum : Sets

-- what the memory stage does: nothing, valM ← [valE], valM ← [valA], [valE] ← valA, [valE] ← valP
pub data Accesses : Type 0 where
  no_access loads_at_e loads_at_a stores_a stores_next : Accesses

-- the length, how many functions there are from 0 on, and the register byte; then where valA and valB come from (decode), what valE is
-- and what sets the codes (execute), the access (memory), and where valE and valM go (write back)
pub record Row : Type 0 where
  pub size : ℕ
  pub functions : ℕ
  pub byte : RegisterByte
  pub a : Which
  pub b : Which
  pub computes : Computes
  pub sets : Sets
  pub accesses : Accesses
  pub target : Which
  pub loaded : Which

abbrev row : ℕ → ℕ → RegisterByte → Which → Which → Computes → Sets → Accesses → Which → Which → Row
row l f y a b e c m t u = record { size = l; functions = f; byte = y; a = a; b = b; computes = e; sets = c; accesses = m; target = t; loaded = u }

-- codes D to F, which have no functions
abbrev pub no_row : Row
no_row = row 1 0 no_byte none none nothing no_codes no_access none none

-- a row for each code
unfoldable pub table : List Row
table =
    -- size functions byte a b computes sets accesses target loaded
    row 1 1 no_byte none none nothing no_codes no_access none none  -- 0 halt
    ∷ row 1 1 no_byte none none nothing no_codes no_access none none  -- 1 nop
    ∷ row 2 7 both_named r_a none just_a no_codes no_access r_b none  -- 2 cmovXX
    ∷ row 10 1 only_b none none just_c no_codes no_access r_b none  -- 3 irmovq
    ∷ row 10 1 both_named r_a r_b b_plus_c no_codes stores_a none none  -- 4 rmmovq
    ∷ row 10 1 both_named none r_b b_plus_c no_codes loads_at_e none r_a  -- 5 mrmovq
    ∷ row 2 4 both_named r_a r_b b_op_a by_op no_access r_b none  -- 6 OPq
    ∷ row 9 7 no_byte none none nothing no_codes no_access none none  -- 7 jXX
    ∷ row 9 1 no_byte none rsp b_less8 no_codes stores_next rsp none  -- 8 call
    ∷ row 1 1 no_byte rsp rsp b_plus8 no_codes loads_at_a rsp none  -- 9 ret
    ∷ row 2 1 only_a r_a rsp b_less8 no_codes stores_a rsp none  -- A pushq
    ∷ row 2 1 only_a rsp rsp b_plus8 no_codes loads_at_a rsp r_a  -- B popq
    ∷ row 10 1 only_b none r_b b_plus_c by_sum no_access r_b none  -- C iaddq (02, #101)
    ∷ no_row  -- D
    ∷ no_row  -- E
    ∷ no_row  -- F
    ∷ []

unfoldable pub row_of : ℕ → Row
row_of code = get_or table code no_row

-- the first code without functions, and the first byte that has it, with function 0
abbrev pub unknown_code : ℕ
unknown_code = 13

abbrev pub unknown_byte : ℕ
unknown_byte = 16 * unknown_code

-- the codes that a rule names by themselves
abbrev pub cmov : ℕ
cmov = 2

abbrev pub operation : ℕ
operation = 6

abbrev pub jump : ℕ
jump = 7

abbrev pub call : ℕ
call = 8

abbrev pub ret : ℕ
ret = 9

unfoldable pub is : ℕ → Instruction → Bool
is code i = eqb i.code code

-- Fetching an instruction: its own bytes alone decide.
use Rattle.std.specs.Prelude.{ℕ, ◌-◌, ◌/◌, ◌%◌, Bool, true, false, cond, ◌&&◌, ◌||◌, List, ltb, leb, eqb, length, get_or, take, drop}
use Rattle.machine.specs.Types.{Instruction, Status, aok, hlt, adr, ins, Option, Fault, no_fault, faulty, first_missing, no_code, no_function, later_missing, no_register, Blame}
use Rattle.machine.specs.Words.{sum, number}
use Rattle.machine.specs.Memory.{Memory, code_end}
use Rattle.machine.specs.Table.{row_of, RegisterByte, no_byte, both_named, only_b, only_a}

-- the table length of the instruction at a, by the code in its first byte
unfoldable pub size_at : Memory → ℕ → ℕ
size_at m a = (row_of (get_or m.bytes a 0 / 16)).size

-- "An instruction's bytes are its table length from its address, cut at N."
unfoldable pub own_bytes : Memory → ℕ → List ℕ
own_bytes m a = take (size_at m a) (drop a (take (code_end m a) m.bytes))

-- "An instruction fetched with status not AOK travels as a nop with that status; its predicted address is its own." It "must name the reason" (02, #107)
unfoldable pub stopping : ℕ → Status → Option Fault → Instruction
stopping a s f = record { address = a; status = s; code = 1; function = 0; ra = 15; rb = 15; constant = 0; next = a; fault = f }

-- which halves of the register byte name a register; one that does not is a filler, and where there is no such byte none does
unfoldable pub names_a : RegisterByte → Bool
names_a no_byte = false
names_a both_named = true
names_a only_b = false
names_a only_a = true

unfoldable pub names_b : RegisterByte → Bool
names_b no_byte = false
names_b both_named = true
names_b only_b = true
names_b only_a = false

-- "Fillers are not looked at .. only a named register of 15 is INS" (02, #102)
unfoldable pub misnamed : RegisterByte → ℕ → ℕ → Bool
misnamed y a b = (names_a y && eqb a 15) || (names_b y && eqb b 15)

-- "code, function" (02, #107): at fault is the code where the table has none of its functions
unfoldable pub not_in_table : ℕ → Option Fault
not_in_table code = cond (eqb (row_of code).functions 0) (faulty no_code) (faulty no_function)

-- "Fetch checks in order: first byte outside memory, ADR; code or function not in the table, INS; a later byte outside memory, ADR;
-- a named register that is 15 .. INS. Only then is 0x00 HLT."
unfoldable pub checked : (first_missing no_function later_missing misnamed halts : Bool) → Instruction → Instruction
checked true f l r h i = stopping i.address adr (faulty first_missing)
checked false true l r h i = stopping i.address ins (not_in_table i.code)
checked false false true r h i = stopping i.address adr (faulty later_missing)
checked false false false true h i = stopping i.address ins (faulty no_register)
checked false false false false true i = stopping i.address hlt no_fault
checked false false false false false i = i

-- a half of the register byte, if it names a register, else 15, "none", whatever the filler is
unfoldable pub half : Bool → ℕ → ℕ
half named x = cond named x 15

-- "an 8-byte constant C": the last eight bytes of an instruction that is longer than that
unfoldable pub constant_in : List ℕ → ℕ → ℕ
constant_in bytes size = cond (ltb 8 size) (number 8 bytes (size - 8)) 0

-- "First byte is code and function; then, by code, a register byte rA:rB and an 8-byte constant C."
unfoldable pub parsed : ℕ → List ℕ → Instruction
parsed a bytes =
    let code = get_or bytes 0 0 / 16 in
    let function = get_or bytes 0 0 % 16 in
    let row = row_of code in
    let x = half (names_a row.byte) (get_or bytes 1 0 / 16) in
    let y = half (names_b row.byte) (get_or bytes 1 0 % 16) in
    checked (eqb (length bytes) 0) (leb row.functions function) (ltb (length bytes) row.size) (misnamed row.byte x y) (eqb code 0)
    (record { address = a; status = aok; code = code; function = function; ra = x; rb = y; constant = constant_in bytes row.size; next = sum a row.size; fault = no_fault })

unfoldable pub fetch : Memory → ℕ → Instruction
fetch m a = parsed a (own_bytes m a)

-- "the address of the byte at fault: the lowest missing address, or the first or the register byte" (02, #107), of an instruction at a; 0 for none
unfoldable pub fault_at : Memory → ℕ → Option Fault → ℕ
fault_at m a no_fault = 0
fault_at m a (faulty first_missing) = a
fault_at m a (faulty no_code) = a
fault_at m a (faulty no_function) = a
fault_at m a (faulty later_missing) = code_end m a
fault_at m a (faulty no_register) = sum a 1

unfoldable pub blame_of : Memory → Instruction → Blame
blame_of m i = record { fault = i.fault; address = fault_at m i.address i.fault }

-- while a machine runs there is none
unfoldable pub no_blame : Blame
no_blame = record { fault = no_fault; address = 0 }

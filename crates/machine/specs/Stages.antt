-- The stage tables of document 003, by code, which both engines use: decode, execute, access, write back, next address.
use Rattle.std.specs.Prelude.{ℕ, ◌+◌, Bool, true, false, cond, not, ◌&&◌, ◌||◌, [], ◌∷◌, ltb, eqb, get_or, pos, ◌+ℤ◌, ◌-ℤ◌}
use Rattle.std.specs.Bool.{beq}
use Rattle.std.specs.Int.Bits.{bit_and, bit_xor}
use Rattle.std.specs.Int.Signed.{lt_z}
use Rattle.std.specs.Int.{w64}
use Rattle.machine.specs.Types.{Window, no_window, within, Instruction, Decoded, Executed, Accessed, Codes, Status, adr, is_bad}
use Rattle.machine.specs.Words.{sum, difference, signed, outside}
use Rattle.machine.specs.Memory.{Memory, Registers, inside, load, store, written}
use Rattle.machine.specs.Table.{row_of, is, cmov, jump, call, ret, Which, none, r_a, r_b, rsp}
use Rattle.machine.specs.Table.{Computes, nothing, b_op_a, just_a, just_c, b_plus_c, b_less8, b_plus8}
use Rattle.machine.specs.Table.{Sets, no_codes, by_op, by_sum}
use Rattle.machine.specs.Table.{Accesses, no_access, loads_at_e, loads_at_a, stores_a, stores_next}

-- the number of a register of the instruction; "15 means none", and rsp is 4
unfoldable pub register : Which → Instruction → ℕ
register none i = 15
register r_a i = i.ra
register r_b i = i.rb
register rsp i = 4

-- DECODE
-- "Sources: cmov rA; rmmovq, OPq rA and rB; mrmovq rB; pushq rA and rsp; popq, call, ret rsp; others none." Of iaddq "its source is rB" (02, #101).
-- "An instruction with bad fetch status has no sources."
unfoldable pub source_a : Instruction → ℕ
source_a i = cond (is_bad i.status) 15 (register (row_of i.code).a i)

unfoldable pub source_b : Instruction → ℕ
source_b i = cond (is_bad i.status) 15 (register (row_of i.code).b i)

-- valA and valB, where from is the value of a register
unfoldable pub decode : Instruction → (ℕ → ℕ) → Decoded
decode i from = record { instruction = i; a = from (source_a i); b = from (source_b i) }

-- EXECUTE
-- "rB becomes rB add, subtract, and, xor rA (functions 0 to 3); subtract is rB minus rA."
unfoldable pub operated : ℕ → ℕ → ℕ → ℕ
operated function a b = get_or (sum b a ∷ difference b a ∷ bit_and b a ∷ bit_xor b a ∷ []) function 0

-- "OF: for add and subtract, exactly when the true signed result lies outside -2^63 to 2^63-1; else 0."
unfoldable pub overflows : ℕ → ℕ → ℕ → Bool
overflows function a b = get_or (outside w64 (signed b +ℤ signed a) ∷ outside w64 (signed b -ℤ signed a) ∷ []) function false

-- addq's function
abbrev addition : ℕ
addition = 0

-- "ZF: result zero. SF: result negative."
unfoldable pub operated_codes : ℕ → ℕ → ℕ → Codes
operated_codes function a b =
    let r = operated function a b in
    record { zf = eqb r 0; sf = lt_z (signed r) (pos 0); of = overflows function a b }

-- "Only OPq sets codes", and iaddq, which "sets codes when and as addq does" (02, #101): as an addition, whatever function it holds
unfoldable pub codes_by : Sets → Decoded → Codes → Codes
codes_by no_codes x c = c
codes_by by_op x c = operated_codes x.instruction.function x.a x.b
codes_by by_sum x c = operated_codes addition x.instruction.constant x.b

unfoldable pub new_codes : Decoded → Codes → Codes
new_codes x c = codes_by (row_of x.instruction.code).sets x c

-- "Conditions 0 to 6: always; le (SF≠OF or ZF); l (SF≠OF); e (ZF); ne; ge (SF=OF); g (SF=OF and not ZF)."
unfoldable pub condition : ℕ → Codes → Bool
condition function c =
    let ge = beq c.sf c.of in
    let e = c.zf in
    get_or (true ∷ (not ge || e) ∷ not ge ∷ e ∷ not e ∷ ge ∷ (ge && not e) ∷ []) function false

-- valE, by what the row computes; -8 wraps
unfoldable pub computed : Computes → Decoded → ℕ
computed nothing x = 0
computed b_op_a x = operated x.instruction.function x.a x.b
computed just_a x = x.a
computed just_c x = x.instruction.constant
computed b_plus_c x = sum x.b x.instruction.constant
computed b_less8 x = difference x.b 8
computed b_plus8 x = sum x.b 8

unfoldable pub result : Decoded → ℕ
result x = computed (row_of x.instruction.code).computes x

-- Cnd: of cmovXX and jXX the condition on the codes, of any other true
unfoldable pub outcome : Instruction → Codes → Bool
outcome i c = cond (is cmov i || is jump i) (condition i.function c) true

unfoldable pub execute : Decoded → Codes → Executed
execute x c = record { instruction = x.instruction; a = x.a; result = result x; holds = outcome x.instruction c }

-- ACCESS
unfoldable pub loading : Accesses → Bool
loading no_access = false
loading loads_at_e = true
loading loads_at_a = true
loading stores_a = false
loading stores_next = false

unfoldable pub storing : Accesses → Bool
storing no_access = false
storing loads_at_e = false
storing loads_at_a = false
storing stores_a = true
storing stores_next = true

unfoldable pub loads : Instruction → Bool
loads i = loading (row_of i.code).accesses

unfoldable pub stores : Instruction → Bool
stores i = storing (row_of i.code).accesses

-- the access address: popq and ret load from the old rsp, which is valA; any other access is at valE
unfoldable pub addressed : Accesses → Executed → ℕ
addressed no_access x = x.result
addressed loads_at_e x = x.result
addressed loads_at_a x = x.a
addressed stores_a x = x.result
addressed stores_next x = x.result

unfoldable pub access_address : Executed → ℕ
access_address x = addressed (row_of x.instruction.code).accesses x

-- the stored word: "call stores the next address"; rmmovq and pushq store valA
unfoldable pub stored : Accesses → Executed → ℕ
stored no_access x = x.a
stored loads_at_e x = x.a
stored loads_at_a x = x.a
stored stores_a x = x.a
stored stores_next x = x.instruction.next

unfoldable pub stored_word : Executed → ℕ
stored_word x = stored (row_of x.instruction.code).accesses x

-- the status after the access: "otherwise ADR"
unfoldable pub access_status : Executed → Memory → Status
access_status x m = cond ((loads x.instruction || stores x.instruction) && not (inside m (access_address x))) adr x.instruction.status

-- "writes any window byte": the eight bytes from a on and the window have one in common, which an empty window has with none
unfoldable pub meets_window : Window → ℕ → Bool
meets_window no_window a = false
meets_window (within (first, end)) a = ltb first end && (ltb a end && ltb first (a + 8))

-- "a store that succeeds in M and writes any window byte" (02, #113), the same value or another
unfoldable pub patches : Executed → Memory → Bool
patches x m = stores x.instruction && (not (is_bad (access_status x m)) && meets_window m.window (access_address x))

unfoldable pub access : Executed → Memory → Accessed
access x m =
    record {
      instruction = x.instruction;
      result = x.result;
      holds = x.holds;
      word = cond (loads x.instruction) (load m (access_address x)) 0;
      status = access_status x m;
      patched = patches x m;
    }

unfoldable pub new_memory : Executed → Memory → Memory
new_memory x m = cond (stores x.instruction) (store m (access_address x) (stored_word x)) m

-- WRITE BACK
-- the result's target: "A false cmov has no target, in E or later."
unfoldable pub result_target : Instruction → Bool → ℕ
result_target i holds = cond (is cmov i && not holds) 15 (register (row_of i.code).target i)

-- the loaded word's target
unfoldable pub loaded_target : Instruction → ℕ
loaded_target i = register (row_of i.code).loaded i

-- the result first and then the word, "so popq rsp leaves the word"
unfoldable pub new_registers : Accessed → Registers → Registers
new_registers w r = written (written r (result_target w.instruction w.holds) w.result) (loaded_target w.instruction) w.word

-- NEXT ADDRESS
-- where a jump goes
unfoldable pub turned : Instruction → Bool → ℕ
turned i taken = cond taken i.constant i.next

-- where any other but ret goes: call to C
unfoldable pub straight : Instruction → ℕ
straight i = cond (is call i) i.constant i.next

-- "ret jumps to the popped word"
unfoldable pub next_address : Accessed → ℕ
next_address w =
    let i = w.instruction in
    cond (is ret i) w.word (cond (is jump i) (turned i w.holds) (straight i))

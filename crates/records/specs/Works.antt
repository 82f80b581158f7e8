-- The work of a stage in a clock: decode, forwarding, execute, access.
use Rattle.std.specs.Prelude.{ℕ, ◌+◌, ◌-◌, ◌^◌, true, false, List, [], ◌∷◌}
use Prim.Native.String.{String}
use Rattle.machine.specs.Memory.{Memory}
use Rattle.clocked.specs.PipeRuns.{pipe_run_unlogged}
use Rattle.records.specs.Names.{Instruction, aok, hlt, ins}
use Rattle.records.specs.Given.{Change, image, with, file, registers, codes, D, E, M, W, nop, cmov, irmovq, rmmovq, mrmovq, operation, jump, call}
use Rattle.records.specs.Given.{ret, pushq, popq, iaddq, fetched_as, instruction}
use Rattle.records.specs.Looks.{Row, clocked, numbers, codes_now, byte, word, val_a, val_b, carried_a, result, holds}
use Rattle.records.specs.Looks.{result_w, loaded, status_w}

-- memory in which nothing is fetched but halt
abbrev halts : Memory
halts = image 1 1 0x00

-- register q holds 100 + q
abbrev distinct : Change
distinct = file (100 ∷ 101 ∷ 102 ∷ 103 ∷ 104 ∷ 105 ∷ 106 ∷ 107 ∷ 108 ∷ 109 ∷ 110 ∷ 111 ∷ 112 ∷ 113 ∷ 114 ∷ [])

-- an instruction in D, and the values with which it comes to E
abbrev decodes : String → Instruction → (a b : ℕ) → Row
decodes s i a b = clocked s (D i ∷ distinct ∷ []) halts 1 ((val_a, a) ∷ (val_b, b) ∷ [])

-- a move of this register in D, stages before it, and the value that it takes; the word at 8 is 2, and the register file has 6 in rbx and rsp
abbrev takes : String → (source : ℕ) → List Change → (value : ℕ) → Row
takes s q cs v = clocked s (D (cmov 0 q 0 0) ∷ registers ((3, 6) ∷ (4, 6) ∷ []) ∷ cs) (image 16 9 0x00_00000000000000_02) 1 ((val_a, v) ∷ [])

-- an OPq in E with both values, its result and codes
abbrev operates : String → (function a b result codes : ℕ) → Row
operates s f a b r c = clocked s (E (operation f 0 1 0) a b ∷ []) halts 1 ((result, r) ∷ (codes_now, c) ∷ [])

-- an iaddq of this function in E, by its constant and its source, the result and codes; what else is in E is not looked at
abbrev adds_by : String → (function constant b result codes : ℕ) → Row
adds_by s f k b r c = clocked s (E (instruction 12 f 15 1 k 10 0) 9 b ∷ []) halts 1 ((result, r) ∷ (codes_now, c) ∷ [])

abbrev adds : String → (constant b result codes : ℕ) → Row
adds s = adds_by s 0

-- which of the jumps 0 to 6 hold on these codes
abbrev conditions : String → (codes : ℕ) → List ℕ → Row
conditions s c = numbers s (held 0 ∷ held 1 ∷ held 2 ∷ held 3 ∷ held 4 ∷ held 5 ∷ held 6 ∷ [])
  where
    held : ℕ → ℕ
    held f = holds (pipe_run_unlogged (with (E (jump f 0 0) 0 0 ∷ codes c ∷ [])) halts 1)

-- any other instruction in E with both values, and its result
abbrev executes : String → Instruction → (a b result : ℕ) → Row
executes s i a b r = clocked s (E i a b ∷ []) halts 1 ((result, r) ∷ (carried_a, a) ∷ (codes_now, 4) ∷ [])

-- an instruction in M with valA and its result, the word that it loads and its status; the word at 8 is 0x0807060504030201
abbrev loads : String → Instruction → (a result : ℕ) → (word status : ℕ) → Row
loads s i a r v t = clocked s (M i a r true ∷ []) (image 16 16 0x0000000000000000_0102030405060708) 1 ((loaded, v) ∷ (status_w, t) ∷ (result_w, r) ∷ [])

-- the same of a store, and the word at 8 afterwards, with the byte before it
abbrev stores : String → Instruction → (a result : ℕ) → (before word status : ℕ) → Row
stores s i a r b v t =
    clocked s (M i a r true ∷ []) (image 16 16 0x0000000000000000_0102030405060708) 1 ((byte 7, b) ∷ (word 8, v) ∷ (loaded, 0) ∷ (status_w, t) ∷ [])

unfoldable pub rows_of_sources : List Row
rows_of_sources =
    -- "Sources: cmov rA; rmmovq, OPq rA and rB; mrmovq rB; pushq rA and rsp; popq, call, ret rsp; others none."
    decodes "R9.1 Sources: cmov rA" (cmov 0 2 3 0) 102 0
    ∷ decodes "R9.1 Sources: rmmovq rA and rB" (rmmovq 2 0 3 0) 102 103
    ∷ decodes "R9.1 Sources: OPq rA and rB" (operation 0 2 3 0) 102 103
    ∷ decodes "R9.1 Sources: mrmovq rB" (mrmovq 0 3 2 0) 0 103
    ∷ decodes "R9.1 Sources: iaddq rB" (iaddq 9 3 0) 0 103
    ∷ decodes "R9.1 Sources: pushq rA and rsp" (pushq 2 0) 102 104
    ∷ decodes "R9.1 Sources: popq rsp" (popq 2 0) 104 104
    ∷ decodes "R9.1 Sources: call rsp" (call 0 0) 0 104
    ∷ decodes "R9.1 Sources: ret rsp" (ret 0) 104 104
    ∷ decodes "R9.1 Sources: irmovq none" (irmovq 0 3 0) 0 0
    ∷ decodes "R9.1 Sources: jXX none" (jump 0 0 0) 0 0
    ∷ decodes "R9.1 Sources: nop none" (nop 0) 0 0
    ∷ decodes "R2.1 Fifteen registers, 0 to 14" (operation 0 14 0 0) 114 100
    ∷ decodes "R2.1 15 means none" (operation 0 15 15 0) 0 0
    ∷ decodes "R9.1 An instruction with bad fetch status has no sources" (fetched_as ins (operation 0 2 3 0)) 0 0
    -- "Decode takes a source from the first match of: result in E, word loaded in M, result in M, word loaded in W, result in W, register file."
    ∷ takes "R9.2 result in E before word loaded in M" 3 (E (irmovq 1 3 0) 0 0 ∷ M (mrmovq 0 0 3 0) 0 8 true ∷ W (mrmovq 0 0 3 0) 5 true 4 aok ∷ []) 1
    ∷ takes "R9.2 word loaded in M before word loaded in W" 3 (M (mrmovq 0 0 3 0) 0 8 true ∷ W (mrmovq 0 0 3 0) 5 true 4 aok ∷ []) 2
    ∷ takes "R9.2 word loaded in M before result in M" 4 (M (popq 4 0) 8 3 true ∷ W (irmovq 5 4 0) 5 true 0 aok ∷ []) 2
    ∷ takes "R9.2 result in M before word loaded in W" 3 (M (irmovq 3 3 0) 0 3 true ∷ W (mrmovq 0 0 3 0) 5 true 4 aok ∷ []) 3
    ∷ takes "R9.2 result in M, of a popq of another register" 4 (M (popq 3 0) 8 3 true ∷ []) 3
    ∷ takes "R9.2 word loaded in W before result in W" 4 (W (popq 4 0) 5 true 4 aok ∷ []) 4
    ∷ takes "R9.2 result in W before register file" 3 (W (irmovq 5 3 0) 5 true 0 aok ∷ []) 5
    ∷ takes "R9.2 register file" 3 (W (irmovq 5 2 0) 5 true 0 aok ∷ []) 6
    ∷ takes "R9.2 result in E, of an iaddq" 3 (E (iaddq 5 3 0) 0 7 ∷ []) 12
    ∷ takes "R9.2 result in M, of an iaddq" 3 (M (iaddq 5 3 0) 0 12 true ∷ []) 12
    ∷ takes "R9.2 result in W, of an iaddq" 3 (W (iaddq 5 3 0) 12 true 0 aok ∷ []) 12
    ∷ takes "R9.2 result in E, of a popq of another register" 4 (E (popq 2 0) 16 16 ∷ []) 24
    -- "A false cmov has no target, in E or later."
    ∷ takes "R9.3 A true cmov has a target, in E" 3 (E (cmov 2 0 3 0) 9 0 ∷ codes 2 ∷ []) 9
    ∷ takes "R9.3 A false cmov has no target, in E" 3 (E (cmov 2 0 3 0) 9 0 ∷ codes 0 ∷ []) 6
    ∷ takes "R9.3 A true cmov has a target, in M" 3 (M (cmov 2 0 3 0) 9 9 true ∷ []) 9
    ∷ takes "R9.3 A false cmov has no target, in M" 3 (M (cmov 2 0 3 0) 9 9 false ∷ []) 6
    ∷ takes "R9.3 A true cmov has a target, in W" 3 (W (cmov 2 0 3 0) 9 true 0 aok ∷ []) 9
    ∷ takes "R9.3 A false cmov has no target, in W" 3 (W (cmov 2 0 3 0) 9 false 0 aok ∷ []) 6
    ∷ takes "R14.5 whatever holds is, an OPq has its target" 3 (M (operation 0 0 3 0) 0 9 false ∷ []) 9
    -- "Register 15 as a source reads 0 and matches nothing"
    ∷ takes "R9.4 Register 15 matches nothing, in E" 15 (E (irmovq 9 15 0) 0 0 ∷ []) 0
    ∷ takes "R9.4 Register 15 matches nothing, in M" 15 (M (mrmovq 0 0 15 0) 0 8 true ∷ []) 0
    ∷ takes "R9.4 Register 15 matches nothing, in W" 15 (W (irmovq 9 15 0) 9 true 0 aok ∷ []) 0
    ∷ []

unfoldable pub rows_of_results : List Row
rows_of_results =
    -- "OPq: rB becomes rB add, subtract, and, xor rA"; "OF: exactly when the true signed result lies outside -2^63 to 2^63-1; else 0"
    operates "R6.4 add: 2^63-2 and 1 is inside" 0 1 (2 ^ 63 - 2) (2 ^ 63 - 1) 0
    ∷ operates "R6.4 add: 2^63-1 and 1 is outside" 0 1 (2 ^ 63 - 1) (2 ^ 63) 3
    ∷ operates "R6.4 add: -2^63+1 and -1 is inside" 0 (2 ^ 64 - 1) (2 ^ 63 + 1) (2 ^ 63) 2
    ∷ operates "R6.4 add: -2^63 and -1 is outside" 0 (2 ^ 64 - 1) (2 ^ 63) (2 ^ 63 - 1) 1
    ∷ operates "R6.4 add: -2^63 and -2^63 is outside, and its result 0" 0 (2 ^ 63) (2 ^ 63) 0 5
    ∷ operates "R6.4 add: 1 and -1 wraps to 0 and is inside" 0 1 (2 ^ 64 - 1) 0 4
    ∷ operates "R6.4 subtract: -2^63+1 less 1 is inside" 1 1 (2 ^ 63 + 1) (2 ^ 63) 2
    ∷ operates "R6.4 subtract: -2^63 less 1 is outside" 1 1 (2 ^ 63) (2 ^ 63 - 1) 1
    ∷ operates "R6.4 subtract: 2^63-2 less -1 is inside" 1 (2 ^ 64 - 1) (2 ^ 63 - 2) (2 ^ 63 - 1) 0
    ∷ operates "R6.4 subtract: 2^63-1 less -1 is outside" 1 (2 ^ 64 - 1) (2 ^ 63 - 1) (2 ^ 63) 3
    ∷ operates "R6.4 subtract: -1 less -2^63 is inside" 1 (2 ^ 63) (2 ^ 64 - 1) (2 ^ 63 - 1) 0
    ∷ operates "R6.4 subtract: 0 less -2^63 is outside" 1 (2 ^ 63) 0 (2 ^ 63) 3
    ∷ operates "R6.4 subtract: -2^63 less -2^63 is 0" 1 (2 ^ 63) (2 ^ 63) 0 4
    ∷ operates "R6.1 subtract is rB minus rA" 1 2 7 5 0
    ∷ operates "R6.4 and: OF 0" 2 (2 ^ 63) (2 ^ 63) (2 ^ 63) 2
    ∷ operates "R6.1 and: bit by bit" 2 6 3 2 0
    ∷ operates "R6.4 xor: OF 0" 3 (2 ^ 63) (2 ^ 63) 0 4
    ∷ operates "R6.1 xor: bit by bit" 3 6 3 5 0
    -- iaddq "adds the constant to rB and sets codes when and as addq does", at both ends of the constant
    ∷ adds "R6.6 iaddq: rB + C" 5 7 12 0
    ∷ adds "R6.6 iaddq 2^63-1: 0 is inside" (2 ^ 63 - 1) 0 (2 ^ 63 - 1) 0
    ∷ adds "R6.6 iaddq 2^63-1: 1 is outside" (2 ^ 63 - 1) 1 (2 ^ 63) 3
    ∷ adds "R6.6 iaddq 2^63-1: -2^63 is inside" (2 ^ 63 - 1) (2 ^ 63) (2 ^ 64 - 1) 2
    ∷ adds "R6.6 iaddq -2^63: 0 is inside" (2 ^ 63) 0 (2 ^ 63) 2
    ∷ adds "R6.6 iaddq -2^63: -1 is outside" (2 ^ 63) (2 ^ 64 - 1) (2 ^ 63 - 1) 1
    ∷ adds "R6.6 iaddq -2^63: -2^63 is outside, and its result 0" (2 ^ 63) (2 ^ 63) 0 5
    ∷ adds "R6.6 iaddq -2^63: 2^63-1 is inside" (2 ^ 63) (2 ^ 63 - 1) (2 ^ 64 - 1) 2
    ∷ adds "R6.6 iaddq -1: 1 wraps to 0 and is inside" (2 ^ 64 - 1) 1 0 4
    ∷ adds_by "R14.5 an iaddq made by hand adds, whatever function it holds: subtract" 1 (2 ^ 63) (2 ^ 63) 0 5
    ∷ adds_by "R14.5 an iaddq made by hand adds, whatever function it holds: and" 2 (2 ^ 63 - 1) 1 (2 ^ 63) 3
    ∷ adds_by "R14.5 an iaddq made by hand adds, whatever function it holds: 255" 255 (2 ^ 63) (2 ^ 64 - 1) (2 ^ 63 - 1) 1
    -- "Conditions 0 to 6: always; le (SF≠OF or ZF); l (SF≠OF); e (ZF); ne; ge (SF=OF); g (SF=OF and not ZF)."
    ∷ conditions "R6.5 Conditions 0 to 6 on none" 0 (1 ∷ 0 ∷ 0 ∷ 0 ∷ 1 ∷ 1 ∷ 1 ∷ [])
    ∷ conditions "R6.5 Conditions 0 to 6 on OF" 1 (1 ∷ 1 ∷ 1 ∷ 0 ∷ 1 ∷ 0 ∷ 0 ∷ [])
    ∷ conditions "R6.5 Conditions 0 to 6 on SF" 2 (1 ∷ 1 ∷ 1 ∷ 0 ∷ 1 ∷ 0 ∷ 0 ∷ [])
    ∷ conditions "R6.5 Conditions 0 to 6 on SF OF" 3 (1 ∷ 0 ∷ 0 ∷ 0 ∷ 1 ∷ 1 ∷ 1 ∷ [])
    ∷ conditions "R6.5 Conditions 0 to 6 on ZF" 4 (1 ∷ 1 ∷ 0 ∷ 1 ∷ 0 ∷ 1 ∷ 0 ∷ [])
    ∷ conditions "R6.5 Conditions 0 to 6 on ZF OF" 5 (1 ∷ 1 ∷ 1 ∷ 1 ∷ 0 ∷ 0 ∷ 0 ∷ [])
    ∷ conditions "R6.5 Conditions 0 to 6 on ZF SF" 6 (1 ∷ 1 ∷ 1 ∷ 1 ∷ 0 ∷ 0 ∷ 0 ∷ [])
    ∷ conditions "R6.5 Conditions 0 to 6 on ZF SF OF" 7 (1 ∷ 1 ∷ 0 ∷ 1 ∷ 0 ∷ 1 ∷ 0 ∷ [])
    -- results; "Only OPq sets codes.", and iaddq; "Address and data sums wrap at 2^64."
    ∷ executes "R5.2 cmov: rA" (cmov 0 0 1 0) 7 5 7
    ∷ executes "R5.2 irmovq: C" (irmovq 9 1 0) 7 5 9
    ∷ executes "R5.2 rmmovq: rB + C" (rmmovq 0 9 1 0) 7 5 14
    ∷ executes "R2.5 mrmovq: rB + C wraps" (mrmovq 2 1 0 0) 7 (2 ^ 64 - 1) 1
    ∷ executes "R5.2 pushq: rsp - 8" (pushq 0 0) 7 24 16
    ∷ executes "R2.5 call: rsp - 8 wraps" (call 9 0) 7 0 (2 ^ 64 - 8)
    ∷ executes "R5.2 popq: rsp + 8" (popq 0 0) 24 24 32
    ∷ executes "R2.5 ret: rsp + 8 wraps" (ret 0) (2 ^ 64 - 8) (2 ^ 64 - 8) 0
    ∷ executes "R5.6 nop: nothing" (nop 0) 7 5 0
    ∷ clocked "R5.6 the condition of an OPq is true, whatever its function" (E (operation 1 0 1 0) 1 2 ∷ codes 0 ∷ []) halts 1 ((holds, 1) ∷ [])
    ∷ executes "R5.6 jXX: nothing" (jump 0 9 0) 7 5 0
    ∷ []

unfoldable pub rows_of_accesses : List Row
rows_of_accesses =
    -- "A word at address a is inside exactly when a + 7, without wrapping, is below N; otherwise ADR."
    loads "R2.4 mrmovq loads from rB + C: 8 bytes, least first" (mrmovq 0 1 0 0) 0 8 0x0807060504030201 1
    ∷ loads "R5.2 popq loads the word at the old rsp" (popq 0 0) 8 16 0x0807060504030201 1
    ∷ loads "R5.2 ret loads the word at the old rsp" (ret 0) 8 16 0x0807060504030201 1
    ∷ loads "R5.5 A load outside memory reads 0, and is ADR" (mrmovq 0 1 0 0) 0 9 0 3
    ∷ loads "R2.6 without wrapping" (mrmovq 0 1 0 0) 0 (2 ^ 64 - 1) 0 3
    ∷ loads "R5.5 a popq outside is ADR" (popq 0 0) 9 17 0 3
    ∷ loads "R5.5 a ret outside is ADR" (ret 0) 9 17 0 3
    ∷ loads "R5.5 no access, no ADR" (operation 0 0 1 0) 9 99 0 1
    ∷ loads "R5.5 no access, no ADR: iaddq" (iaddq 0 1 0) 9 99 0 1
    ∷ loads "R8.2 a bad status of the fetch stays" (fetched_as hlt (nop 0)) 0 99 0 2
    ∷ loads "R14.5 an access outside is ADR, whatever the status was" (fetched_as hlt (mrmovq 0 1 0 0)) 0 9 0 3
    ∷ stores "R2.4 rmmovq stores rA: 8 bytes, least first" (rmmovq 0 0 1 0) 0x1122334455667788 8 0 0x1122334455667788 1
    ∷ stores "R5.3 pushq stores rA at rsp - 8" (pushq 0 0) 7 8 0 7 1
    ∷ stores "R5.3 call stores the next address" (call 40 3) 7 8 0 12 1
    ∷ stores "R5.5 a store outside writes nothing, and is ADR" (rmmovq 0 0 1 0) 0x1122334455667788 9 0 0x0807060504030201 3
    ∷ stores "R5.5 a store outside writes nothing, without wrapping" (pushq 0 0) 0x1122334455667788 (2 ^ 64 - 8) 0 0x0807060504030201 3
    ∷ stores "R14.5 a store with a bad status of its fetch writes" (fetched_as ins (rmmovq 0 0 1 0)) 7 8 0 7 4
    ∷ stores "R2.4 a store goes to its own eight bytes" (rmmovq 0 0 1 0) (2 ^ 64 - 1) 7 255 0x08ffffffffffffff 1
    ∷ []

-- Late store data (02, #106): rows R8.8, and what it asks of load-use and charges.
use Rattle.std.specs.Prelude.{ℕ, true, List, [], ◌∷◌}
use Prim.Native.String.{String}
use Rattle.records.specs.Names.{Instruction, aok}
use Rattle.records.specs.Given.{Change, image, rule, late, keeps, D, E, M, cmov, rmmovq, mrmovq, operation, call, ret, pushq, popq}
use Rattle.records.specs.Looks.{Row, clocked, bubble, carried_a, result, codes_now}
use Rattle.records.specs.Clocks.{controls, charges}

-- an instruction in E, with 9 and 40 for its values, and a load in M of the word at 8, which is 2: what it goes on with, and its result
abbrev handed : String → Change → (in_e in_m : Instruction) → (a r : ℕ) → Row
handed s c i j a r = clocked s (c ∷ E i 9 40 ∷ M j 8 8 true ∷ []) (image 16 9 0x00_00000000000000_02) 1 ((carried_a, a) ∷ (result, r) ∷ [])

-- D goes on behind E, and D is held
abbrev goes : String → Change → (in_d in_e : Instruction) → Row
goes s c i j = controls s (c ∷ D i ∷ E j 0 0 ∷ []) 31 30 1 2

abbrev waits : String → Change → (in_d in_e : Instruction) → Row
waits s c i j = controls s (c ∷ D i ∷ E j 0 0 ∷ []) 30 1 bubble 2

-- the cycles charged for load-use
abbrev charged : String → Change → (kept in_w : Instruction) → (n : ℕ) → Row
charged s c i j n = charges s (c ∷ keeps i true ∷ []) j aok n 20 20

unfoldable pub rows_of_late : List Row
rows_of_late =
    -- "rmmovq or pushq waits only if the loaded register is its address source (rB, or rsp for pushq)"
    waits "R10.1 not late: rmmovq behind a load of its rA" (rule 0) (rmmovq 3 0 1 1) (mrmovq 0 1 3 2)
    ∷ goes "R10.1 late: rmmovq behind a load of its rA" (late 0) (rmmovq 3 0 1 1) (mrmovq 0 1 3 2)
    ∷ goes "R10.1 late, rule 1: rmmovq behind popq of its rA" (late 1) (rmmovq 3 0 1 1) (popq 3 2)
    ∷ goes "R10.1 late, rule 2: pushq behind a load of its rA" (late 2) (pushq 3 1) (mrmovq 0 1 3 2)
    ∷ goes "R10.1 late: rmmovq rsp behind popq rsp" (late 0) (rmmovq 4 0 1 1) (popq 4 2)
    ∷ waits "R10.1 late: rmmovq behind a load of its rB" (late 0) (rmmovq 1 0 3 1) (mrmovq 0 1 3 2)
    ∷ waits "R10.1 late: rmmovq behind a load of both" (late 0) (rmmovq 3 0 3 1) (mrmovq 0 1 3 2)
    ∷ waits "R10.1 late: pushq behind a load of rsp" (late 0) (pushq 3 1) (popq 4 2)
    -- "pushq rsp after a load of rsp still waits."
    ∷ waits "R10.1 late: pushq rsp behind a load of rsp" (late 0) (pushq 4 1) (popq 4 2)
    -- no other instruction has late data
    ∷ waits "R10.1 late: call behind a load of rsp" (late 0) (call 0 1) (popq 4 2)
    ∷ waits "R10.1 late: ret behind a load of rsp" (late 0) (ret 1) (popq 4 2)
    ∷ waits "R10.1 late: popq behind a load of rsp" (late 0) (popq 3 1) (popq 4 2)
    ∷ waits "R10.1 late: OPq behind a load of its rA" (late 0) (operation 0 3 1 1) (mrmovq 0 1 3 2)
    ∷ waits "R10.1 late: a move behind a load of its rA" (late 0) (cmov 0 3 1 1) (mrmovq 0 1 3 2)
    ∷ waits "R10.1 late: mrmovq behind a load of its rB" (late 0) (mrmovq 0 3 1 1) (mrmovq 0 1 3 2)
    -- "One core passes a word loaded in M straight to a store in E."
    ∷ handed "R8.8 late: rmmovq takes the word" (late 0) (rmmovq 3 5 1 1) (mrmovq 0 1 3 2) 2 45
    ∷ handed "R8.8 late, rule 1: pushq takes the word" (late 1) (pushq 3 1) (popq 3 2) 2 32
    ∷ handed "R8.8 late: rmmovq rsp takes the word, not popq's rsp + 8" (late 0) (rmmovq 4 5 1 1) (popq 4 2) 2 45
    ∷ handed "R8.8 not late: rmmovq keeps its valA" (rule 0) (rmmovq 3 5 1 1) (mrmovq 0 1 3 2) 9 45
    ∷ handed "R8.8 late: M loads another register" (late 0) (rmmovq 3 5 1 1) (mrmovq 0 1 2 2) 9 45
    ∷ handed "R8.8 late: M loads rB, not rA" (late 0) (rmmovq 3 5 1 1) (mrmovq 0 1 1 2) 9 45
    ∷ handed "R8.8 late: popq's rsp + 8 is no loaded word" (late 0) (rmmovq 4 5 1 1) (popq 3 2) 9 45
    ∷ handed "R8.8 late: M loads nothing" (late 0) (rmmovq 3 5 1 1) (operation 0 1 3 2) 9 45
    ∷ handed "R8.8 late: register 15 matches nothing" (late 0) (rmmovq 15 5 1 1) (mrmovq 0 1 15 2) 9 45
    ∷ handed "R8.8 late: OPq takes no word in E" (late 0) (operation 0 3 1 1) (mrmovq 0 1 3 2) 9 49
    ∷ handed "R8.8 late: a move takes no word in E" (late 0) (cmov 0 3 1 1) (mrmovq 0 1 3 2) 9 9
    ∷ clocked "R8.8 late: nothing in M" (late 0 ∷ E (rmmovq 3 5 1 1) 9 40 ∷ []) (image 16 1 0x00) 1 ((carried_a, 9) ∷ (result, 45) ∷ (codes_now, 4) ∷ [])
    -- "if it is only the stored rA there is no charge", and else "demand 3's charge of 1 reads so"
    ∷ charged "R11.5 not late: 1 behind a load of its rA" (rule 0) (mrmovq 0 1 3 0) (rmmovq 3 0 1 7) 21
    ∷ charged "R11.5 late: 0 behind a load of its rA" (late 0) (mrmovq 0 1 3 0) (rmmovq 3 0 1 7) 20
    ∷ charged "R11.5 late, rule 2: 0 for pushq behind a load of its rA" (late 2) (popq 3 0) (pushq 3 7) 20
    ∷ charged "R11.5 late: 1 behind a load of its rB" (late 0) (mrmovq 0 1 3 0) (rmmovq 1 0 3 7) 21
    ∷ charged "R11.5 late: 1 behind a load of both, once" (late 0) (mrmovq 0 1 3 0) (rmmovq 3 0 3 7) 21
    ∷ charged "R11.5 late: 1 for pushq rsp behind a load of rsp" (late 0) (popq 4 0) (pushq 4 7) 21
    ∷ charged "R11.5 late: 1 for call behind a load of rsp" (late 0) (popq 4 0) (call 0 7) 21
    ∷ charged "R11.5 late: 1 for OPq" (late 0) (mrmovq 0 1 3 0) (operation 0 3 1 7) 21
    ∷ []

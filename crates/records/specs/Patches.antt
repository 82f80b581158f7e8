-- Programs that patch themselves (02, #113): the window in fetch and in refusals, the flush behind a store into it, and its charge.
use Rattle.std.specs.Prelude.{ℕ, true, List, [], ◌∷◌}
use Prim.Native.String.{String}
use Rattle.machine.specs.Memory.{Memory}
use Rattle.machine.specs.Runs.{start_refusal, plain_refusal as plain_refuses}
use Rattle.clocked.specs.PipeRuns.{pipe_refusal, pipe_start_refusal}
use Rattle.records.specs.Names.{Instruction, Machine, Status, aok, adr, ins, within}
use Rattle.machine.specs.Plain.{plain_start}
use Rattle.records.specs.Given.{Change, with, window, patches, patching_w, keeps_patching, image, filled, given, coded, counts, F, D, E, M, W}
use Rattle.records.specs.Given.{nop, rmmovq, mrmovq, operation, jump, call, ret, pushq, popq, fetched_as}
use Rattle.records.specs.Looks.{Row, clocked, numbers, performed, predicted, codes_now, loaduse, mispredict, returned, patched, byte, d, e, m, w, kept, bubble}
use Rattle.records.specs.Looks.{address, fetch_status, fault, patched_w, kept_patched, retired, cycles, plain_refusal, plain_status, plain_fault, plain_fault_at}

abbrev nops : Memory
nops = filled 60 0x10

-- a clock over nops with 30 in F and a store of 255 at 40 in M, seen through a window: the flush, with this in F
abbrev flushes : String → List Change → (restart : ℕ) → Row
flushes s cs f =
    clocked s (window 0 60 ∷ F 30 ∷ cs) nops 1
    ((predicted, f) ∷ (d address, bubble) ∷ (e address, bubble) ∷ (m address, bubble) ∷ (w address, 3) ∷ (patched_w, 1) ∷ (codes_now, 4) ∷ [])

abbrev store : Change
store = M (rmmovq 0 0 1 3) 255 40 true

-- which store is seen to patch, by the window
abbrev edges : String → (first end patches : ℕ) → Row
edges s first end n = clocked s (window first end ∷ F 30 ∷ store ∷ []) nops 1 ((patched_w, n) ∷ (byte 40, 255) ∷ [])

-- what stands in D after a fetch at 30, or at 0 of an irmovq of ten bytes
abbrev fetches : String → (first end : ℕ) → (status fault : ℕ) → Row
fetches s first end t x = clocked s (window first end ∷ F 30 ∷ []) nops 1 ((d address, 30) ∷ (d fetch_status, t) ∷ (d fault, x) ∷ [])

abbrev fetches_ten : String → (first end : ℕ) → (status fault : ℕ) → Row
fetches_ten s first end t x = clocked s (window first end ∷ []) (image 12 2 0x30f0) 1 ((d address, 0) ∷ (d fetch_status, t) ∷ (d fault, x) ∷ [])

-- an instruction that retires behind a kept store into the window
abbrev charged : String → (kept in_w : Instruction) → Status → (n : ℕ) → Row
charged s i j t n =
    clocked s (W j 0 true 0 t ∷ patches 20 ∷ counts 10 40 20 20 20 ∷ keeps_patching i true ∷ []) nops 1
    ((loaduse, 20) ∷ (mispredict, 20) ∷ (returned, 20) ∷ (patched, 23) ∷ (retired, 11) ∷ (cycles, 41) ∷ (kept_patched, n) ∷ [])

-- a plain start at 0 of an irmovq, seen through a window
abbrev plain_within : (first end : ℕ) → Machine
plain_within first end = plain_start (within (first, end)) (given []) (coded 4) 0

unfoldable pub rows_of_patches : List Row
rows_of_patches =
    -- "an instruction byte outside the window is ADR as if outside memory"
    fetches "R3.6 the first byte is the window's first" 30 60 1 0
    ∷ fetches "R3.6 the first byte is before the window" 31 60 3 1
    ∷ fetches "R3.6 the first byte is the window's last" 0 31 1 0
    ∷ fetches "R3.6 the first byte is at the window's end" 0 30 3 1
    ∷ fetches "R3.6 an empty window has no byte" 30 30 3 1
    ∷ fetches_ten "R3.6 the last byte is the window's last" 0 10 1 0
    ∷ fetches_ten "R3.6 a later byte is at the window's end" 0 9 3 4
    ∷ fetches_ten "R3.6 the second byte is at the window's end" 0 1 3 4
    ∷ performed "R3.6 plain: a later byte is at the window's end, which is the byte at fault" (plain_within 0 9) (image 12 2 0x30f0) 1 (0 ∷ [])
    ((plain_refusal, 0) ∷ (plain_status, 3) ∷ (plain_fault, 4) ∷ (plain_fault_at, 9) ∷ [])
    ∷ performed "R3.6 plain: the first byte is before the window" (plain_within 1 12) (image 12 2 0x30f0) 1 (0 ∷ [])
    ((plain_status, 3) ∷ (plain_fault, 1) ∷ (plain_fault_at, 0) ∷ [])
    ∷ performed "R3.6 plain: all bytes in the window" (plain_within 0 10) (image 12 2 0x30f0) 1 (0 ∷ []) ((plain_status, 1) ∷ [])
    -- "cancels everything younger, whose codes are not set, and fetch restarts at the instruction that follows the store"
    ∷ flushes "R8.9 a store into the window" (D (nop 1) ∷ E (nop 2) 0 0 ∷ store ∷ []) 13
    ∷ flushes "R8.9 an OPq in E sets no codes" (D (nop 1) ∷ E (operation 0 0 1 2) 1 2 ∷ store ∷ []) 13
    ∷ flushes "R8.9 pushq" (M (pushq 0 3) 255 40 true ∷ []) 5
    ∷ flushes "R8.9 for call, its target" (M (call 20 3) 0 40 true ∷ []) 20
    ∷ flushes "R8.9 the same bytes written again" (M (rmmovq 0 0 1 3) 0x1010101010101010 40 true ∷ []) 13
    -- "This goes before a misprediction, a load-use wait and the hold for a ret in the same clock."
    ∷ flushes "R8.9 before a misprediction" (D (nop 1) ∷ E (jump 4 40 2) 0 0 ∷ store ∷ []) 13
    ∷ flushes "R8.9 before a load-use wait" (D (operation 0 3 0 1) ∷ E (mrmovq 0 1 3 2) 0 0 ∷ store ∷ []) 13
    ∷ flushes "R8.9 before the hold for a ret in D" (D (ret 1) ∷ E (nop 2) 0 0 ∷ store ∷ []) 13
    ∷ flushes "R8.9 before the hold for a ret in E" (D (nop 1) ∷ E (ret 2) 0 0 ∷ store ∷ []) 13
    -- "a store that succeeds in M and writes any window byte"
    ∷ edges "R8.9 the store's last byte is the window's first" 47 60 1
    ∷ edges "R8.9 the window begins behind the store" 48 60 0
    ∷ edges "R8.9 the store's first byte is the window's last" 0 41 1
    ∷ edges "R8.9 the window ends before the store" 0 40 0
    ∷ edges "R8.9 a window inside the store" 43 44 1
    ∷ edges "R8.9 an empty window inside the store" 43 43 0
    ∷ clocked "R8.9 no window" (F 30 ∷ D (nop 1) ∷ E (nop 2) 0 0 ∷ store ∷ []) nops 1
    ((predicted, 31) ∷ (d address, 30) ∷ (e address, 1) ∷ (m address, 2) ∷ (patched_w, 0) ∷ [])
    ∷ clocked "R8.9 a store that fails" (window 0 60 ∷ F 30 ∷ D (nop 1) ∷ E (nop 2) 0 0 ∷ M (rmmovq 0 0 1 3) 0 53 true ∷ []) nops 1
    ((predicted, 31) ∷ (d address, 30) ∷ (e address, 1) ∷ (m address, bubble) ∷ (patched_w, 0) ∷ [])
    ∷ clocked "R8.9 a store with a bad status of its own writes and cancels nothing"
    (window 0 60 ∷ F 30 ∷ D (nop 1) ∷ E (nop 2) 0 0 ∷ M (fetched_as ins (rmmovq 0 0 1 3)) 255 40 true ∷ []) nops 1
    ((predicted, 31) ∷ (d address, 30) ∷ (e address, 1) ∷ (m address, bubble) ∷ (patched_w, 0) ∷ (byte 40, 255) ∷ [])
    ∷ clocked "R8.9 a load from the window" (window 0 60 ∷ F 30 ∷ D (nop 1) ∷ M (mrmovq 0 1 2 3) 0 40 true ∷ []) nops 1
    ((predicted, 31) ∷ (d address, 30) ∷ (e address, 1) ∷ (patched_w, 0) ∷ [])
    -- "The following instruction is charged 3, kept as a fourth kind."
    ∷ charged "R11.5 3 behind a store into the window" (rmmovq 0 0 1 3) (nop 7) aok 0
    ∷ charged "R11.5 the stopping follower too, and what is kept stays" (rmmovq 0 0 1 3) (nop 7) adr 1
    ∷ charged "R11.5 before load-use" (popq 3 3) (pushq 3 7) aok 0
    ∷ charged "R11.5 before a return" (ret 3) (nop 7) aok 0
    ∷ charged "R11.5 before a misprediction" (jump 3 40 3) (nop 7) aok 0
    ∷ clocked "R11.7 what is kept says that it patched" (patching_w (rmmovq 0 0 1 3) 40 ∷ []) nops 1 ((kept address, 3) ∷ (kept_patched, 1) ∷ [])
    -- "both at most N, the end not below the first; otherwise refusal 5", and a fourth count above cycles
    ∷ numbers "R14.1 5: the window at its ends"
    (run 0 60 ∷ run 60 60 ∷ run 0 0 ∷ run 0 61 ∷ run 61 61 ∷ run 61 60 ∷ run 31 30 ∷ []) (0 ∷ 0 ∷ 0 ∷ 5 ∷ 5 ∷ 5 ∷ 5 ∷ [])
    ∷ numbers "R14.1 plain: 5: the window at its ends"
    (plain 0 60 ∷ plain 60 60 ∷ plain 0 0 ∷ plain 0 61 ∷ plain 61 61 ∷ plain 61 60 ∷ plain 31 30 ∷ []) (0 ∷ 0 ∷ 0 ∷ 5 ∷ 5 ∷ 5 ∷ 5 ∷ [])
    ∷ numbers "R14.2 plain: 1, 3 and 4 before 5"
    (plain_refuses (within (2, 1)) 0 0 1 [] ∷ plain_refuses (within (2, 1)) 60 0 0 [] ∷ plain_refuses (within (2, 1)) 60 0 1 (0 ∷ []) ∷ []) (1 ∷ 3 ∷ 4 ∷ [])
    ∷ numbers "R14.7 a fresh start: 1 before 5 before 6"
    (start_refusal (within (2, 1)) 0 0 ∷ start_refusal (within (2, 1)) 60 60 ∷ start_refusal (within (0, 60)) 60 60 ∷ start_refusal (within (0, 60)) 60 59 ∷ []) (1 ∷ 5 ∷ 6 ∷ 0 ∷ [])
    ∷ numbers "R14.7 a fresh start of the pipeline" (start 0 61 0 ∷ start 2 1 60 ∷ start 0 60 60 ∷ start 0 60 59 ∷ []) (5 ∷ 5 ∷ 6 ∷ 0 ∷ [])
    ∷ numbers "R14.1 5: a fourth kind above cycles"
    (pipe_refusal (with (patches 1 ∷ [])) 60 1 [] ∷ pipe_refusal (with (patches 40 ∷ counts 0 40 0 0 0 ∷ [])) 60 1 [] ∷ []) (5 ∷ 0 ∷ [])
    ∷ []
  where
    run : (first end : ℕ) → ℕ
    run first end = pipe_refusal (with (window first end ∷ [])) 60 1 []

    plain : (first end : ℕ) → ℕ
    plain first end = plain_refuses (within (first, end)) 60 0 1 []

    start : (first end address : ℕ) → ℕ
    start first end a = pipe_start_refusal (with (window first end ∷ [])).settings 60 a

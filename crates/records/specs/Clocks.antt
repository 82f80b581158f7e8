-- A clock: the fetch address, the controls, retirement, charges, stops.
use Rattle.std.specs.Prelude.{ℕ, true, false, List, [], ◌∷◌}
use Prim.Native.String.{String}
use Rattle.machine.specs.Memory.{Memory}
use Rattle.clocked.specs.Prediction.{as_in_01}
use Rattle.clocked.specs.Pipeline.{pipe_start}
use Rattle.clocked.specs.PipeRuns.{PipeAnswer, pipe_answer}
use Rattle.records.specs.Names.{Instruction, Status, aok, hlt, adr, ins}
use Rattle.records.specs.Given.{Change, image, filled, empty, given, coded, registers, codes, stopped, counts, keeps, F, D, E, M, W, nop, cmov, irmovq}
use Rattle.records.specs.Given.{rmmovq, mrmovq, operation, jump, call, ret, pushq, popq, iaddq, fetched_as, instruction}
use Rattle.records.specs.Looks.{Row, answers, clocked, predicted, register, codes_now, status, last, retired, cycles, loaduse}
use Rattle.records.specs.Looks.{mispredict, returned, byte, d, e, m, w, kept, bubble, address, fetch_status, code}
use Rattle.records.specs.Looks.{status_w, kept_held}

-- sixty nops
abbrev nops : Memory
nops = filled 60 0x10

-- a clock over nops with 30 in F: where it fetches
abbrev pub fetches_from : String → List Change → (address : ℕ) → Row
fetches_from s cs a = clocked s (F 30 ∷ cs) nops 1 ((d address, a) ∷ (d code, 1) ∷ [])

-- a clock over nops with 30 in F, and what stands in F, D, E and M afterwards, by address; a nop that is fetched at 30 leaves 31 in F
abbrev pub controls : String → List Change → (f d e m : ℕ) → Row
controls s cs x y z v = clocked s (F 30 ∷ cs) nops 1 ((predicted, x) ∷ (d address, y) ∷ (e address, z) ∷ (m address, v) ∷ [])

-- an instruction that retires behind a kept one, and its charge by kind
abbrev pub charges : String → List Change → Instruction → Status → (loaduse mispredict returned : ℕ) → Row
charges s cs i t l x u =
    clocked s (W i 0 true 0 t ∷ counts 10 40 20 20 20 ∷ cs) nops 1 ((loaduse, l) ∷ (mispredict, x) ∷ (returned, u) ∷ (retired, 11) ∷ (cycles, 41) ∷ [])

-- a record in which everything differs from a fresh one: an OPq in E, a store in M, this instruction in W with that status
abbrev busy : Status → Instruction → List Change
busy t i =
    F 30
    ∷ D (irmovq 1 2 21)
    ∷ E (operation 0 0 1 22) 1 2
    ∷ M (rmmovq 0 0 1 23) 255 40 true
    ∷ W i 77 true 88 t
    ∷ registers ((3, 6) ∷ (4, 7) ∷ [])
    ∷ codes 7
    ∷ stopped aok 25
    ∷ counts 10 40 20 20 20
    ∷ keeps (ret 26) true
    ∷ []

unfoldable pub rows_of_clock : List Row
rows_of_clock =
    -- "At a fresh start F holds the start address and the rest are bubbles." "Last address is that of the last retired instruction, or the start address."
    answers {A = PipeAnswer} "R8.3 At a fresh start" (pipe_answer 0 (pipe_start as_in_01 (given ((14, 9) ∷ [])) (coded 5) 77) empty [] [])
    ((predicted, 77) ∷ (d address, bubble) ∷ (e address, bubble) ∷ (m address, bubble) ∷ (w address, bubble) ∷ (register 14, 9) ∷ (codes_now, 5)
    ∷ (status, 1) ∷ (last, 77) ∷ (retired, 0) ∷ (cycles, 0) ∷ (loaduse, 0) ∷ (mispredict, 0) ∷ (returned, 0) ∷ (kept address, bubble) ∷ [])
    -- "Fetch address: if M holds a jump whose condition was false, that jump's next address; else if W holds ret, the word it read; else the predicted one."
    ∷ fetches_from "R8.5 the predicted one" [] 30
    ∷ fetches_from "R8.5 if M holds a jump whose condition was false, that jump's next address" (M (jump 3 40 1) 0 0 false ∷ []) 10
    ∷ fetches_from "R8.5 a jump in M whose condition was true" (M (jump 3 40 1) 0 0 true ∷ []) 30
    ∷ fetches_from "R8.5 a jump that is always taken, its condition false all the same" (M (jump 0 40 1) 0 0 false ∷ []) 10
    ∷ fetches_from "R14.5 the next address that the jump carries" (M (instruction 7 3 15 15 40 20 1) 0 0 false ∷ []) 21
    ∷ fetches_from "R8.5 a false cmov in M is no jump" (M (cmov 3 0 1 1) 0 0 false ∷ []) 30
    ∷ fetches_from "R8.5 if W holds ret, the word it read" (W (ret 1) 0 true 50 aok ∷ []) 50
    ∷ fetches_from "R8.5 a popq in W is no ret" (W (popq 0 1) 0 true 50 aok ∷ []) 30
    ∷ fetches_from "R8.5 the jump in M before the ret in W" (M (jump 3 40 1) 0 0 false ∷ W (ret 1) 0 true 50 aok ∷ []) 10
    ∷ fetches_from "R8.5 the ret in W behind a jump in M that was true" (M (jump 3 40 1) 0 0 true ∷ W (ret 1) 0 true 50 aok ∷ []) 50
    ∷ fetches_from "R8.5 a jump in E fetches nothing yet" (E (jump 0 40 1) 0 0 ∷ []) 30
    -- nothing special
    ∷ controls "R8.6 each goes on" (D (nop 1) ∷ E (nop 2) 0 0 ∷ M (nop 3) 0 0 true ∷ []) 31 30 1 2
    -- "load-use (mrmovq or popq in E whose loaded register is a source in D): hold F and D, bubble into E"
    ∷ controls "R10.1 load-use: mrmovq in E, its register the first source" (D (operation 0 3 0 1) ∷ E (mrmovq 0 1 3 2) 0 0 ∷ []) 30 1 bubble 2
    ∷ controls "R10.1 load-use: mrmovq in E, its register the second source" (D (operation 0 0 3 1) ∷ E (mrmovq 0 1 3 2) 0 0 ∷ []) 30 1 bubble 2
    ∷ controls "R10.1 load-use: popq in E" (D (pushq 3 1) ∷ E (popq 3 2) 0 0 ∷ []) 30 1 bubble 2
    ∷ controls "R10.1 load-use: iaddq behind a load of rB" (D (iaddq 5 3 1) ∷ E (mrmovq 0 1 3 2) 0 0 ∷ []) 30 1 bubble 2
    ∷ controls "R10.1 no load-use: iaddq of another register" (D (iaddq 5 2 1) ∷ E (popq 3 2) 0 0 ∷ []) 31 30 1 2
    ∷ controls "R10.1 no load-use: another register" (D (operation 0 1 2 1) ∷ E (mrmovq 0 1 3 2) 0 0 ∷ []) 31 30 1 2
    ∷ controls "R10.1 no load-use: popq's rsp is a result" (D (call 0 1) ∷ E (popq 3 2) 0 0 ∷ []) 31 30 1 2
    ∷ controls "R10.1 no load-use: a result, and no load" (D (operation 0 3 0 1) ∷ E (irmovq 0 3 2) 0 0 ∷ []) 31 30 1 2
    ∷ controls "R10.1 no load-use: a target in D, and no source" (D (irmovq 0 3 1) ∷ E (mrmovq 0 1 3 2) 0 0 ∷ []) 31 30 1 2
    ∷ controls "R10.1 no load-use: the load is in M" (D (operation 0 3 0 1) ∷ M (mrmovq 0 1 3 2) 0 0 true ∷ []) 31 30 1 bubble
    ∷ controls "R10.1 no load-use: register 15 matches nothing" (D (cmov 0 15 0 1) ∷ E (mrmovq 0 1 15 2) 0 0 ∷ []) 31 30 1 2
    ∷ controls "R10.1 no load-use: a bad fetch has no sources" (D (fetched_as ins (operation 0 3 0 1)) ∷ E (mrmovq 0 1 3 2) 0 0 ∷ []) 31 30 1 2
    -- "misprediction (jXX in E, condition false): bubble into D and E"
    ∷ controls "R10.2 misprediction: bubble into D and E" (D (nop 1) ∷ E (jump 4 40 2) 0 0 ∷ []) 31 bubble bubble 2
    ∷ controls "R10.2 no misprediction: condition true" (D (nop 1) ∷ E (jump 3 40 2) 0 0 ∷ []) 31 30 1 2
    ∷ controls "R10.2 no misprediction: a false cmov" (D (nop 1) ∷ E (cmov 4 0 1 2) 0 0 ∷ []) 31 30 1 2
    ∷ controls "R10.7 misprediction with ret in D: F is held for the ret" (D (ret 1) ∷ E (jump 4 40 2) 0 0 ∷ []) 30 bubble bubble 2
    -- "ret in D, E or M: hold F, bubble into D, but load-use holds D instead"
    ∷ clocked "R10.3 ret in D: hold F, from a fresh start" [] (image 3 3 0x90_10_10) 2 ((predicted, 1) ∷ (d code, bubble) ∷ (e code, 9) ∷ [])
    ∷ controls "R10.3 ret in D: hold F, bubble into D" (D (ret 1) ∷ []) 30 bubble 1 bubble
    ∷ controls "R10.3 ret in E: hold F, bubble into D" (D (nop 1) ∷ E (ret 2) 0 0 ∷ []) 30 bubble 1 2
    ∷ controls "R10.3 ret in M: hold F, bubble into D" (D (nop 1) ∷ E (nop 2) 0 0 ∷ M (ret 3) 0 0 true ∷ []) 30 bubble 1 2
    ∷ controls "R10.3 ret in W: F goes on from the word" (D (nop 1) ∷ W (ret 3) 0 true 50 aok ∷ []) 51 50 1 bubble
    ∷ controls "R10.3 load-use holds D instead: popq rsp before ret" (D (ret 1) ∷ E (popq 4 2) 0 0 ∷ []) 30 1 bubble 2
    ∷ controls "R10.3 load-use holds D instead: with ret in M" (D (operation 0 3 0 1) ∷ E (mrmovq 0 1 3 2) 0 0 ∷ M (ret 3) 0 0 true ∷ []) 30 1 bubble 2
    -- "bad status in M, after its access: bubble into M. Then, or with bad status in W, OPq in E sets no codes."
    ∷ clocked "R10.4 bad status in M after its access: bubble into M, no codes"
    (F 30 ∷ D (nop 1) ∷ E (operation 0 0 1 2) 1 2 ∷ M (rmmovq 0 0 1 3) 0 53 true ∷ []) nops 1
    ((predicted, 31) ∷ (d address, 30) ∷ (e address, 1) ∷ (m address, bubble) ∷ (w address, 3) ∷ (status_w, 3) ∷ (codes_now, 4) ∷ (status, 1) ∷ [])
    ∷ clocked "R10.4 bad fetch status in M: bubble into M, no codes" (D (nop 1) ∷ E (operation 0 0 1 2) 1 2 ∷ M (fetched_as hlt (nop 3)) 0 0 true ∷ []) nops 1
    ((e address, 1) ∷ (m address, bubble) ∷ (w address, 3) ∷ (status_w, 2) ∷ (codes_now, 4) ∷ [])
    ∷ clocked "R10.5 bad status in M after its access: an iaddq in E sets no codes" (E (iaddq 1 1 2) 0 2 ∷ M (rmmovq 0 0 1 3) 0 53 true ∷ []) nops 1
    ((m address, bubble) ∷ (codes_now, 4) ∷ [])
    ∷ clocked "R10.5 bad status in W: an iaddq in E sets no codes" (E (iaddq 1 1 2) 0 2 ∷ W (popq 3 3) 0 true 0 adr ∷ []) nops 1
    ((e address, 2) ∷ (codes_now, 4) ∷ [])
    ∷ clocked "R10.5 good status in M: an iaddq in E sets codes" (E (iaddq 1 1 2) 0 2 ∷ M (rmmovq 0 0 1 3) 0 52 true ∷ []) nops 1
    ((m address, 2) ∷ (codes_now, 0) ∷ [])
    ∷ clocked "R10.5 good status in M: no bubble, and codes" (E (operation 0 0 1 2) 1 2 ∷ M (rmmovq 0 0 1 3) 0 52 true ∷ []) nops 1
    ((m address, 2) ∷ (w address, 3) ∷ (status_w, 1) ∷ (codes_now, 0) ∷ [])
    ∷ clocked "R10.4 bad fetch status in E: no bubble into M yet" (E (fetched_as ins (nop 2)) 0 0 ∷ []) nops 1 ((m address, 2) ∷ (m fetch_status, 4) ∷ [])
    ∷ clocked "R14.5 an OPq with a bad status of its own sets codes" (E (fetched_as ins (operation 0 0 1 2)) 1 2 ∷ []) nops 1
    ((codes_now, 0) ∷ (m address, 2) ∷ [])
    ∷ clocked "R14.5 an iaddq with a bad status of its own sets codes" (E (fetched_as ins (iaddq 1 1 2)) 0 2 ∷ []) nops 1
    ((codes_now, 0) ∷ (m address, 2) ∷ [])
    ∷ clocked "R10.6 misprediction beside a bad status in M" (D (nop 1) ∷ E (jump 4 40 2) 0 0 ∷ M (fetched_as ins (nop 3)) 0 0 true ∷ []) nops 1
    ((d address, bubble) ∷ (e address, bubble) ∷ (m address, bubble) ∷ (w address, 3) ∷ [])
    -- "Memory is read before the clock's write."
    ∷ clocked "R8.6 Memory is read before the clock's write" (F 8 ∷ M (rmmovq 0 0 1 0) 0 8 true ∷ []) nops 1
    ((d fetch_status, 1) ∷ (d code, 1) ∷ (byte 8, 0) ∷ (byte 15, 0) ∷ (byte 16, 0x10) ∷ [])
    -- "An instruction retires in the clock in which it stands in W."
    ∷ clocked "R11.2 retires" (W (irmovq 5 3 7) 5 true 0 aok ∷ stopped aok 25 ∷ counts 10 40 20 20 20 ∷ keeps (nop 26) true ∷ []) nops 1
    ((retired, 11) ∷ (cycles, 41) ∷ (last, 7) ∷ (status, 1) ∷ (register 3, 5) ∷ (kept address, 7) ∷ (kept_held, 1) ∷ (w address, bubble) ∷ [])
    ∷ clocked "R11.2 a bubble in W retires nothing" (stopped aok 25 ∷ counts 10 40 20 20 20 ∷ keeps (nop 26) false ∷ []) nops 1
    ((retired, 10) ∷ (cycles, 41) ∷ (last, 25) ∷ (status, 1) ∷ (kept address, 26) ∷ (kept_held, 0) ∷ (loaduse, 20) ∷ (mispredict, 20) ∷ (returned, 20) ∷ [])
    ∷ clocked "R5.3 popq rsp leaves the word" (W (popq 4 7) 5 true 9 aok ∷ []) nops 1 ((register 4, 9) ∷ [])
    ∷ clocked "R5.2 popq writes rsp and its register" (W (popq 3 7) 5 true 9 aok ∷ []) nops 1 ((register 4, 5) ∷ (register 3, 9) ∷ [])
    ∷ clocked "R9.3 a false cmov writes nothing, and is kept so" (W (cmov 2 0 3 7) 5 false 0 aok ∷ registers ((3, 6) ∷ []) ∷ []) nops 1
    ((register 3, 6) ∷ (kept_held, 0) ∷ [])
    ∷ clocked "R8.2 the condition goes on from M to W" (M (cmov 2 0 3 7) 9 9 false ∷ registers ((3, 6) ∷ []) ∷ []) nops 2
    ((register 3, 6) ∷ (kept address, 7) ∷ (kept_held, 0) ∷ [])
    ∷ clocked "R14.5 no other is held back by a false condition" (W (irmovq 5 3 7) 5 false 0 aok ∷ []) nops 1 ((register 3, 5) ∷ [])
    ∷ clocked "R5.2 iaddq writes rB, whatever its condition is marked" (W (iaddq 5 3 7) 12 false 0 aok ∷ []) nops 1 ((register 3, 12) ∷ [])
    ∷ clocked "R2.1 register 14 as a target" (W (irmovq 5 14 7) 5 true 0 aok ∷ []) nops 1 ((register 14, 5) ∷ [])
    ∷ clocked "R5.2 ret writes rsp" (W (ret 7) 5 true 9 aok ∷ []) nops 1 ((register 4, 5) ∷ [])
    -- "Charge of instruction k ≥ 2, by its predecessor: 1 if that loads a register among k's sources; 2 if it was a conditional jump not taken; 3 if
    -- ret; else 0."
    ∷ charges "R11.5 1 if that loads a register among k's sources: mrmovq" (keeps (mrmovq 0 1 3 0) true ∷ []) (operation 0 0 3 7) aok 21 20 20
    ∷ charges "R11.5 1 if that loads a register among k's sources: popq" (keeps (popq 3 0) true ∷ []) (pushq 3 7) aok 21 20 20
    ∷ charges "R11.5 1: popq rsp before ret" (keeps (popq 4 0) true ∷ []) (ret 7) aok 21 20 20
    ∷ charges "R11.5 1: iaddq behind a load of rB" (keeps (mrmovq 0 1 3 0) true ∷ []) (iaddq 5 3 7) aok 21 20 20
    ∷ charges "R11.5 1: iaddq rsp behind popq rsp" (keeps (popq 4 0) true ∷ []) (iaddq 8 4 7) aok 21 20 20
    ∷ charges "R11.5 0: iaddq behind a load of another register" (keeps (mrmovq 0 1 3 0) true ∷ []) (iaddq 5 2 7) aok 20 20 20
    ∷ charges "R11.5 0: iaddq loads nothing" (keeps (iaddq 5 3 0) true ∷ []) (iaddq 5 3 7) aok 20 20 20
    ∷ charges "R11.5 0: a load of another register" (keeps (mrmovq 0 1 3 0) true ∷ []) (operation 0 1 2 7) aok 20 20 20
    ∷ charges "R11.5 0: popq's rsp is no load" (keeps (popq 3 0) true ∷ []) (ret 7) aok 20 20 20
    ∷ charges "R9.4 0: register 15 matches nothing" (keeps (mrmovq 0 1 15 0) true ∷ []) (cmov 0 15 0 7) aok 20 20 20
    ∷ charges "R11.5 2 if it was a conditional jump not taken" (keeps (jump 1 40 0) false ∷ []) (nop 7) aok 20 22 20
    ∷ charges "R11.5 2 for the last condition too" (keeps (jump 6 40 0) false ∷ []) (nop 7) aok 20 22 20
    ∷ charges "R11.5 0: a conditional jump taken" (keeps (jump 1 40 0) true ∷ []) (nop 7) aok 20 20 20
    ∷ charges "R14.5 0: a jump without condition, marked false" (keeps (jump 0 40 0) false ∷ []) (nop 7) aok 20 20 20
    ∷ charges "R11.5 0: a false cmov" (keeps (cmov 1 0 1 0) false ∷ []) (nop 7) aok 20 20 20
    ∷ charges "R11.5 3 if ret" (keeps (ret 0) true ∷ []) (nop 7) aok 20 20 23
    ∷ charges "R11.5 0: call" (keeps (call 40 0) true ∷ []) (nop 7) aok 20 20 20
    ∷ charges "R11.7 with none kept, the next one retired is charged 0" [] (ret 7) aok 20 20 20
    ∷ charges "R11.5 An instruction with bad fetch status has no sources" (keeps (mrmovq 0 1 3 0) true ∷ []) (fetched_as ins (operation 0 3 3 7)) ins 20 20 20
    ∷ charges "R11.5 one that fails at its access has its sources, and is charged" (keeps (mrmovq 0 1 3 0) true ∷ []) (rmmovq 3 0 1 7) adr 21 20 20
    ∷ charges "R11.6 a stopping one is charged too: after ret" (keeps (ret 0) true ∷ []) (fetched_as hlt (nop 7)) hlt 20 20 23
    -- "When its status is bad, that clock changes only the counts, logs, status and last address: everything else stays as it stood."
    ∷ clocked "R11.3 bad status in W: everything else stays as it stood" (busy adr (popq 3 24)) nops 1
    ((status, 3) ∷ (last, 24) ∷ (retired, 11) ∷ (cycles, 41) ∷ (loaduse, 20) ∷ (mispredict, 20) ∷ (returned, 23) ∷ (predicted, 30) ∷ (d address, 21)
    ∷ (e address, 22) ∷ (m address, 23) ∷ (w address, 24) ∷ (register 3, 6) ∷ (register 4, 7) ∷ (codes_now, 7) ∷ (kept address, 26) ∷ (byte 40, 0x10) ∷ [])
    ∷ clocked "R8.6 the same clock with AOK in W" (busy aok (popq 3 24)) nops 1
    ((status, 1) ∷ (last, 24) ∷ (retired, 11) ∷ (cycles, 41) ∷ (predicted, 31) ∷ (d address, 30) ∷ (e address, 21) ∷ (m address, 22) ∷ (w address, 23)
    ∷ (register 3, 88) ∷ (register 4, 77) ∷ (codes_now, 0) ∷ (kept address, 24) ∷ (byte 40, 255) ∷ (byte 41, 0) ∷ (byte 48, 0x10) ∷ [])
    ∷ clocked "R11.3 the status of the stop: HLT" (busy hlt (fetched_as hlt (nop 24))) nops 1
    ((status, 2) ∷ (last, 24) ∷ (kept address, 26) ∷ (w address, 24) ∷ [])
    ∷ clocked "R11.3 the status of the stop: INS" (busy ins (fetched_as ins (nop 24))) nops 1 ((status, 4) ∷ (last, 24) ∷ [])
    -- "A step or clock on a stopped machine changes nothing, counts nothing and logs nothing."
    ∷ clocked "R2.9 a clock on a stopped machine changes nothing" (stopped hlt 27 ∷ busy aok (popq 3 24)) nops 3
    ((status, 2) ∷ (last, 27) ∷ (retired, 10) ∷ (cycles, 40) ∷ (returned, 20) ∷ (predicted, 30) ∷ (d address, 21) ∷ (e address, 22) ∷ (m address, 23)
    ∷ (w address, 24) ∷ (register 3, 6) ∷ (codes_now, 7) ∷ (kept address, 26) ∷ (byte 40, 0x10) ∷ [])
    -- "A run ends at a stop or a spent budget."
    ∷ clocked "R13.1 A run ends at a stop" (busy adr (popq 3 24)) nops 9 ((cycles, 41) ∷ (retired, 11) ∷ (status, 3) ∷ [])
    ∷ []

-- The entries: budgets, logs, refusals, and the plain engine's own books.
use Rattle.std.specs.Prelude.{ℕ, ◌-◌, ◌^◌, true, cond, List, [], ◌∷◌, replicate}
use Prim.Native.String.{String}
use Rattle.machine.specs.Memory.{Memory}
use Rattle.machine.specs.Table.{unknown_byte}
use Rattle.clocked.specs.Prediction.{as_in_01}
use Rattle.machine.specs.Fetch.{no_blame}
use Rattle.machine.specs.Plain.{plain_of, plain_start}
use Rattle.clocked.specs.Premise.{writes_byte, has_byte}
use Rattle.machine.specs.Runs.{start_refusal, plain_started, PlainAnswer, plain_answer, plain_refusal as plain_refuses, plain_step}
use Rattle.clocked.specs.PipeRuns.{pipe_started, pipe_refusal, pipe_run_unlogged, pipe_clock}
use Rattle.records.specs.Names.{Instruction, no_window, Machine, Status, aok, hlt, adr, ins}
use Rattle.records.specs.Given.{Change, rule, image, filled, empty, given, coded, fresh, with, stopped, counts, keeps, F, D, E, M, W, nop, cmov, operation, jump}
use Rattle.records.specs.Given.{popq, iaddq, unknown, fetched_as, instruction}
use Rattle.records.specs.Looks.{Row, answers, numbers, ran, performed, refusal, retired, cycles, predicted, d, address}
use Rattle.records.specs.Looks.{address_log, cycle_log, plain_refusal, plain_register, plain_codes, plain_address, plain_status, plain_last}
use Rattle.records.specs.Looks.{plain_count, plain_log}

-- a log that has 9 everywhere
abbrev nines : ℕ → List ℕ
nines n = replicate n 9

-- nop, nop, halt
abbrev short : Memory
short = image 3 3 0x10_10_00

-- a run's number
abbrev refuses : String → ℕ → List Change → Memory → (budget : ℕ) → (addresses cycles : List ℕ) → Row
refuses s n cs m b a y = ran s cs m b a y ((refusal, n) ∷ [])

-- the number when this instruction stands in D, E, M, W or is kept
abbrev anywhere : String → ℕ → Instruction → Row
anywhere s n i =
    numbers s (number (D i) ∷ number (E i 0 0) ∷ number (M i 0 0 true) ∷ number (W i 0 true 0 aok) ∷ number (keeps i true) ∷ [])
    (n ∷ n ∷ n ∷ n ∷ n ∷ [])
  where
    number : Change → ℕ
    number f = refusal (pipe_run_unlogged (with (f ∷ [])) short 1)

-- the same with these counts
abbrev counting : String → ℕ → Change → Row
counting s n f = answers s (pipe_run_unlogged (with (f ∷ [])) short 1) ((refusal, n) ∷ [])

-- a plain record: register rbx is 6, codes 7
abbrev machine : (address : ℕ) → Status → (last count : ℕ) → Machine
machine a s l n =
    record { registers = given ((3, 6) ∷ []); codes = coded 7; address = a; status = s; last = l; count = n; blame = no_blame; window = no_window }

-- which of the bytes 0 to 3, and 8 to 11, and 16
abbrev marks : (ℕ → ℕ) → List ℕ
marks f = f 0 ∷ f 1 ∷ f 2 ∷ f 3 ∷ f 8 ∷ f 9 ∷ f 10 ∷ f 11 ∷ f 15 ∷ f 16 ∷ []

abbrev has_bytes : String → (size bytes written address : ℕ) → List ℕ → Row
has_bytes s n k x a = numbers s (marks (λ b. cond (has_byte (plain_of (machine a aok 0 0) (image n k x)) b) 1 0))

abbrev writes_bytes : String → (size bytes written : ℕ) → List ℕ → Row
writes_bytes s n k x = numbers s (marks (λ b. cond (writes_byte (plain_of (machine 0 aok 0 0) (image n k x)) b) 1 0))

unfoldable pub rows_of_entries : List Row
rows_of_entries =
    -- "place k-1 takes the k-th retirement of the call, the rest stays"; the cycles "counted from the fresh start"
    ran "R13.3 logs: the rest stays" [] short 9 (nines 9) (nines 10)
    ((refusal, 0) ∷ (retired, 3) ∷ (address_log 0, 0) ∷ (address_log 1, 1) ∷ (address_log 2, 2) ∷ (address_log 3, 9) ∷ (address_log 8, 9)
    ∷ (cycle_log 0, 5) ∷ (cycle_log 1, 6) ∷ (cycle_log 2, 7) ∷ (cycle_log 3, 9) ∷ (cycle_log 9, 9) ∷ [])
    ∷ ran "R13.3 logs: the k-th retirement of the call, its cycle from the fresh start"
    (W (nop 7) 0 true 0 aok ∷ counts 10 40 0 0 0 ∷ []) short 1 (nines 2) (nines 2)
    ((retired, 11) ∷ (address_log 0, 7) ∷ (address_log 1, 9) ∷ (cycle_log 0, 41) ∷ (cycle_log 1, 9) ∷ [])
    ∷ ran "R13.3 logs: a clock that retires nothing takes no place" [] short 4 (nines 4) (nines 4) ((retired, 0) ∷ (address_log 0, 9) ∷ (cycle_log 0, 9) ∷ [])
    ∷ ran "R13.3 logs: the stopping one takes its place" (W (nop 7) 0 true 0 adr ∷ []) short 3 (nines 3) (nines 3)
    ((address_log 0, 7) ∷ (address_log 1, 9) ∷ (cycle_log 0, 1) ∷ (cycle_log 1, 9) ∷ [])
    ∷ ran "R2.9 a stopped machine logs nothing" (stopped hlt 3 ∷ W (nop 7) 0 true 0 aok ∷ []) short 2 (nines 2) (nines 2)
    ((refusal, 0) ∷ (cycles, 0) ∷ (address_log 0, 9) ∷ (cycle_log 0, 9) ∷ [])
    ∷ performed "R13.3 plain log: the rest stays" (plain_start no_window (given []) (coded 4) 0) short 5 (nines 6)
    ((plain_refusal, 0) ∷ (plain_count, 3) ∷ (plain_log 0, 0) ∷ (plain_log 1, 1) ∷ (plain_log 2, 2) ∷ (plain_log 3, 9) ∷ (plain_log 5, 9) ∷ [])
    ∷ performed "R13.3 plain log: the k-th of the call" (machine 1 aok 0 7) short 1 (nines 2) ((plain_count, 8) ∷ (plain_log 0, 1) ∷ (plain_log 1, 9) ∷ [])
    -- the plain engine's books
    ∷ answers {A = PlainAnswer} "R2.8 plain: at a fresh start" (plain_answer 0 (plain_start no_window (given ((3, 6) ∷ [])) (coded 7) 77) empty [])
    ((plain_address, 77) ∷ (plain_last, 77) ∷ (plain_count, 0) ∷ (plain_status, 1) ∷ (plain_codes, 7) ∷ (plain_register 3, 6) ∷ [])
    ∷ performed "R7.3 plain: the stopping one counts, is last, and the program address stays" (machine 2 aok 1 7) short 3 (nines 3)
    ((plain_status, 2) ∷ (plain_address, 2) ∷ (plain_last, 2) ∷ (plain_count, 8) ∷ (plain_codes, 7) ∷ (plain_register 3, 6) ∷ (plain_log 0, 2) ∷ (plain_log 1, 9) ∷ [])
    ∷ performed "R2.9 plain: a step on a stopped machine changes nothing" (machine 0 ins 1 7) short 2 (nines 2)
    ((plain_refusal, 0) ∷ (plain_status, 4) ∷ (plain_address, 0) ∷ (plain_last, 1) ∷ (plain_count, 7) ∷ (plain_log 0, 9) ∷ [])
    ∷ performed "R13.1 plain: a run ends at a spent budget" (machine 0 aok 0 0) short 1 (nines 1)
    ((plain_status, 1) ∷ (plain_address, 1) ∷ (plain_last, 0) ∷ (plain_count, 1) ∷ [])
    -- "A step or clock is a run of 1 without logs."
    ∷ answers "R13.4 A step is a run of 1 without logs" (plain_step (machine 1 aok 0 65535) short)
    ((plain_refusal, 0) ∷ (plain_count, 65536) ∷ (plain_address, 2) ∷ [])
    ∷ answers "R13.4 A step is refused as a run is" (plain_step (machine 1 aok 0 65536) short)
    ((plain_refusal, 3) ∷ (plain_count, 65536) ∷ (plain_address, 1) ∷ [])
    ∷ answers "R13.4 A clock is a run of 1 without logs" (pipe_clock (with (counts 0 262144 0 0 0 ∷ [])) short)
    ((refusal, 0) ∷ (cycles, 262145) ∷ (predicted, 1) ∷ [])
    ∷ answers "R13.4 A clock is refused as a run is" (pipe_clock (with (counts 0 262145 0 0 0 ∷ [])) short)
    ((refusal, 3) ∷ (cycles, 262145) ∷ (predicted, 0) ∷ [])
    ∷ answers "R14.4 a clock can meet 5" (pipe_clock (with (D (unknown 0) ∷ [])) short) ((refusal, 5) ∷ (cycles, 0) ∷ (d address, 0) ∷ [])
    ∷ answers "R14.4 a clock can meet 1" (pipe_clock (with []) empty) ((refusal, 1) ∷ (cycles, 0) ∷ [])
    ∷ answers "R14.4 a step can meet 1" (plain_step (machine 1 aok 0 7) empty) ((plain_refusal, 1) ∷ (plain_count, 7) ∷ [])
    -- refusals: each of its own, at both ends
    ∷ refuses "R14.1 1: N is 0" 1 [] empty 1 (nines 1) (nines 1)
    ∷ refuses "R14.1 N is 1" 0 [] (filled 1 9) 1 (nines 1) (nines 1)
    ∷ numbers "R14.1 1: N is above 65,536" (pipe_refusal fresh 65536 1 [] ∷ pipe_refusal fresh 65537 1 [] ∷ []) (0 ∷ 1 ∷ [])
    ∷ numbers "R14.1 plain: 1: N is above 65,536" (plain_refuses no_window 65536 0 1 [] ∷ plain_refuses no_window 65537 0 1 [] ∷ []) (0 ∷ 1 ∷ [])
    -- a fresh start: 1, and 6 checked last
    ∷ numbers "R14.7 a fresh start at N - 1, N and 2^64 - 1" (start_refusal no_window 4096 4095 ∷ start_refusal no_window 4096 4096 ∷ start_refusal no_window 4096 (2 ^ 64 - 1) ∷ []) (0 ∷ 6 ∷ 6 ∷ [])
    ∷ numbers "R14.7 the same at the limit" (start_refusal no_window 65536 65535 ∷ start_refusal no_window 65536 65536 ∷ start_refusal no_window 65537 65536 ∷ []) (0 ∷ 6 ∷ 1 ∷ [])
    ∷ numbers "R14.7 1 before 6" (start_refusal no_window 0 0 ∷ start_refusal no_window 65537 (2 ^ 64 - 1) ∷ []) (1 ∷ 1 ∷ [])
    ∷ numbers "R14.7 a start's number, and its record all the same"
    ((plain_started no_window 5 (given []) (coded 4) 5).0 ∷ (plain_started no_window 5 (given []) (coded 4) 5).1.address
    ∷ (pipe_started as_in_01 5 (given []) (coded 4) 5).0 ∷ (pipe_started as_in_01 5 (given []) (coded 4) 5).1.predicted ∷ []) (6 ∷ 5 ∷ 6 ∷ 5 ∷ [])
    ∷ refuses "R14.7 a run that goes on from a record tests its address no more" 0 (F 3 ∷ []) short 1 (nines 1) (nines 1)
    ∷ refuses "R14.1 3: budget 0" 3 [] short 0 [] []
    ∷ refuses "R13.2 3: without wrapping" 3 (counts 0 1 0 0 0 ∷ []) short (2 ^ 64 - 1) [] []
    ∷ refuses "R13.2 3: cycles count, and not the retired" 0 (counts 5 262144 0 0 0 ∷ []) short 1 (nines 1) (nines 1)
    ∷ refuses "R14.1 4: the first log shorter than the budget" 4 [] short 2 (nines 1) (nines 2)
    ∷ refuses "R14.1 4: the second log shorter than the budget" 4 [] short 2 (nines 2) (nines 1)
    ∷ refuses "R13.3 logs as long as the budget" 0 [] short 2 (nines 2) (nines 2)
    -- "Lowest number wins": with all wrong at first, and the lowest put right each time
    ∷ refuses "R14.2 1 before 3, 4 and 5" 1 (D (unknown 0) ∷ counts 0 262145 0 0 0 ∷ []) empty 1 [] []
    ∷ refuses "R14.2 3 before 4 and 5" 3 (D (unknown 0) ∷ counts 0 262145 0 0 0 ∷ []) short 1 [] []
    ∷ refuses "R14.2 4 before 5" 4 (D (unknown 0) ∷ []) short 1 [] []
    ∷ refuses "R14.2 5 alone" 5 (D (unknown 0) ∷ []) short 1 (nines 1) (nines 1)
    ∷ refuses "R14.2 5, of a stopped machine too" 5 (stopped hlt 0 ∷ D (unknown 0) ∷ []) short 1 (nines 1) (nines 1)
    ∷ performed "R14.2 plain: 1 before 3 and 4" (machine 0 aok 0 65536) empty 1 [] ((plain_refusal, 1) ∷ [])
    ∷ performed "R14.2 plain: 3 before 4" (machine 0 aok 0 65536) short 1 [] ((plain_refusal, 3) ∷ [])
    ∷ performed "R14.2 plain: 4 alone" (machine 0 aok 0 65535) short 1 [] ((plain_refusal, 4) ∷ [])
    ∷ performed "R14.1 plain: a log as long as the budget" (machine 0 aok 0 65534) short 2 (nines 2) ((plain_refusal, 0) ∷ (plain_count, 65536) ∷ [])
    ∷ performed "R14.1 plain: a log shorter than the budget" (machine 0 aok 0 0) short 2 (nines 1) ((plain_refusal, 4) ∷ [])
    ∷ performed "R14.1 plain: 3: budget 0" (machine 0 aok 0 0) short 0 [] ((plain_refusal, 3) ∷ [])
    -- 5, in D, E, M, W and the kept one
    ∷ refuses "R14.3 5: a rule number other than these three" 5 (rule 3 ∷ []) short 1 (nines 1) (nines 1)
    ∷ refuses "R14.3 5: a rule number other than these three, the highest" 5 (rule 255 ∷ []) short 1 (nines 1) (nines 1)
    ∷ refuses "R14.3 rule 2" 0 (rule 2 ∷ []) short 1 (nines 1) (nines 1)
    ∷ anywhere "R14.3 5: register number over 15, the first" 5 (cmov 0 16 0 0)
    ∷ anywhere "R14.3 5: register number over 15, the second" 5 (cmov 0 0 16 0)
    ∷ anywhere "R14.3 5: register number over 15, the highest" 5 (popq 255 0)
    ∷ anywhere "R14.3 register numbers of 15" 0 (cmov 0 15 15 0)
    ∷ anywhere "R14.3 5: code without functions in the table" 5 (unknown 0)
    ∷ anywhere "R14.3 5: code without functions in the table, 15" 5 (instruction 15 0 15 15 0 1 0)
    ∷ anywhere "R14.3 5: code above the table" 5 (instruction 16 0 15 15 0 1 0)
    ∷ anywhere "R14.3 code 12" 0 (iaddq 0 0 0)
    ∷ anywhere "R14.3 5: move function over 6" 5 (cmov 7 0 1 0)
    ∷ anywhere "R14.3 move function 6" 0 (cmov 6 0 1 0)
    ∷ anywhere "R14.3 5: jump function over 6" 5 (jump 7 0 0)
    ∷ anywhere "R14.3 jump function 6" 0 (jump 6 0 0)
    ∷ anywhere "R14.3 5: OPq function over 3" 5 (operation 4 0 1 0)
    ∷ anywhere "R14.3 OPq function 3" 0 (operation 3 0 1 0)
    ∷ anywhere "R14.3 the function of no other code is looked at" 0 (instruction 1 9 15 15 0 1 0)
    ∷ anywhere "R14.3 the function of no other code is looked at: iaddq" 0 (instruction 12 255 15 0 0 10 0)
    ∷ anywhere "R14.3 a bad fetch status is no refusal" 0 (fetched_as ins (nop 0))
    -- 5: "retired or a kind's count above cycles"
    ∷ counting "R14.3 counts as high as cycles" 0 (counts 5 5 5 5 5)
    ∷ counting "R14.3 5: retired above cycles" 5 (counts 6 5 0 0 0)
    ∷ counting "R14.3 5: a kind's count above cycles: load-use" 5 (counts 0 5 6 0 0)
    ∷ counting "R14.3 5: a kind's count above cycles: mispredict" 5 (counts 0 5 0 6 0)
    ∷ counting "R14.3 5: a kind's count above cycles: return" 5 (counts 0 5 0 0 6)
    -- demand 3's bytes: "An instruction's bytes are its table length from its address, cut at N."
    ∷ has_bytes "R3.4 its table length from its address: 10" 20 10 0x30f1_0000000000000000 0 (1 ∷ 1 ∷ 1 ∷ 1 ∷ 1 ∷ 1 ∷ 0 ∷ 0 ∷ 0 ∷ 0 ∷ [])
    ∷ has_bytes "R3.4 its table length from its address: 10, of an iaddq" 20 1 0xc0 0 (1 ∷ 1 ∷ 1 ∷ 1 ∷ 1 ∷ 1 ∷ 0 ∷ 0 ∷ 0 ∷ 0 ∷ [])
    ∷ has_bytes "R3.4 its table length from its address: 2, at 1" 20 3 0x10_6001 1 (0 ∷ 1 ∷ 1 ∷ 0 ∷ 0 ∷ 0 ∷ 0 ∷ 0 ∷ 0 ∷ 0 ∷ [])
    ∷ has_bytes "R3.4 its table length: 1 for a code without functions" 20 1 unknown_byte 0 (1 ∷ 0 ∷ 0 ∷ 0 ∷ 0 ∷ 0 ∷ 0 ∷ 0 ∷ 0 ∷ 0 ∷ [])
    ∷ has_bytes "R3.4 cut at N" 2 2 0x30f1 0 (1 ∷ 1 ∷ 0 ∷ 0 ∷ 0 ∷ 0 ∷ 0 ∷ 0 ∷ 0 ∷ 0 ∷ [])
    ∷ writes_bytes "R12.2 a store writes eight bytes, inside" 24 10 0x4000_0900000000000000 (0 ∷ 0 ∷ 0 ∷ 0 ∷ 0 ∷ 1 ∷ 1 ∷ 1 ∷ 1 ∷ 1 ∷ [])
    ∷ writes_bytes "R12.2 eight, and no more" 24 10 0x4000_0800000000000000 (0 ∷ 0 ∷ 0 ∷ 0 ∷ 1 ∷ 1 ∷ 1 ∷ 1 ∷ 1 ∷ 0 ∷ [])
    ∷ writes_bytes "R12.2 a store outside writes no byte" 15 10 0x4000_0800000000000000 (0 ∷ 0 ∷ 0 ∷ 0 ∷ 0 ∷ 0 ∷ 0 ∷ 0 ∷ 0 ∷ 0 ∷ [])
    ∷ writes_bytes "R12.2 a load writes no byte" 24 10 0x5000_0800000000000000 (0 ∷ 0 ∷ 0 ∷ 0 ∷ 0 ∷ 0 ∷ 0 ∷ 0 ∷ 0 ∷ 0 ∷ [])
    ∷ []

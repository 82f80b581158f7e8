-- Fetching: the table, the checks in their order, the fields, and what a bad fetch travels as.
use Rattle.std.specs.Prelude.{ℕ, ◌-◌, ◌^◌, true, List, [], ◌∷◌}
use Prim.Native.String.{String}
use Rattle.machine.specs.Types.{status_number, fault_number}
use Rattle.machine.specs.Fetch.{fetch, blame_of}
use Rattle.machine.specs.Plain.{plain_start}
use Rattle.machine.specs.Runs.{fetch_answer}
use Rattle.records.specs.Names.{no_window, adr, ins, faulty, later_missing, Instruction, FetchAnswer}
use Rattle.records.specs.Given.{image, filled, empty, given, coded, nop, popq, blamed_for, F, W}
use Rattle.records.specs.Looks.{Row, Look, answers, clocked, numbers, predicted, d, address, fetch_status, code, function, ra, rb, constant, next, fault}
use Rattle.records.specs.Looks.{blamed, blamed_at, status, last, performed, plain_fault, plain_fault_at, plain_status}

-- the status with which each image is fetched at 0: how many bytes there are, and the bytes as they are written
abbrev statuses : List (ℕ × ℕ) → List ℕ
statuses [] = []
statuses (x ∷ xs) = status_number (fetch (image x.0 x.0 x.1) 0).status ∷ statuses xs

abbrev fetches : String → List (ℕ × ℕ) → List ℕ → Row
fetches s xs = numbers s (statuses xs)

-- what is fetched at an address
abbrev fetches_at : String → (size bytes written address : ℕ) → List (Look Instruction) → Row
fetches_at s n k x a = answers s (fetch (image n k x) a)

-- the reason for which each image is not fetched at 0, and the byte at fault; one image with several addresses
abbrev faults : List (ℕ × ℕ) → List ℕ
faults [] = []
faults (x ∷ xs) =
    let i = fetch (image x.0 x.0 x.1) 0 in
    fault_number i.fault ∷ (blame_of (image x.0 x.0 x.1) i).address ∷ faults xs

abbrev faults_of : String → List (ℕ × ℕ) → List ℕ → Row
faults_of s xs = numbers s (faults xs)

-- where the byte at fault is, of the open entry's answer
abbrev at : FetchAnswer → ℕ
at r = r.blame.address

-- of the open entry's answer
abbrev refusal : FetchAnswer → ℕ
refusal r = r.number

abbrev of : (Instruction → ℕ) → FetchAnswer → ℕ
of f r = f r.instruction

unfoldable pub rows_of_fetch : List Row
rows_of_fetch =
    -- the table's functions: each at its end, and the next one
    fetches "R3.2 halt, nop, ret: function 0" ((1, 0x00) ∷ (1, 0x01) ∷ (1, 0x10) ∷ (1, 0x11) ∷ (1, 0x90) ∷ (1, 0x91) ∷ []) (2 ∷ 4 ∷ 1 ∷ 4 ∷ 1 ∷ 4 ∷ [])
    ∷ fetches "R3.2 cmovXX: functions 0-6" ((2, 0x2001) ∷ (2, 0x2601) ∷ (2, 0x2701) ∷ (2, 0x2f01) ∷ []) (1 ∷ 1 ∷ 4 ∷ 4 ∷ [])
    ∷ fetches "R3.2 irmovq: function 0" ((10, 0x30f1_0000000000000000) ∷ (10, 0x31f1_0000000000000000) ∷ []) (1 ∷ 4 ∷ [])
    ∷ fetches "R3.2 rmmovq: function 0" ((10, 0x4001_0000000000000000) ∷ (10, 0x4101_0000000000000000) ∷ []) (1 ∷ 4 ∷ [])
    ∷ fetches "R3.2 mrmovq: function 0" ((10, 0x5001_0000000000000000) ∷ (10, 0x5101_0000000000000000) ∷ []) (1 ∷ 4 ∷ [])
    ∷ fetches "R3.2 OPq: functions 0-3" ((2, 0x6001) ∷ (2, 0x6301) ∷ (2, 0x6401) ∷ (2, 0x6f01) ∷ []) (1 ∷ 1 ∷ 4 ∷ 4 ∷ [])
    ∷ fetches "R3.2 jXX: functions 0-6" ((9, 0x70_0000000000000000) ∷ (9, 0x76_0000000000000000) ∷ (9, 0x77_0000000000000000) ∷ []) (1 ∷ 1 ∷ 4 ∷ [])
    ∷ fetches "R3.2 call: function 0" ((9, 0x80_0000000000000000) ∷ (9, 0x81_0000000000000000) ∷ []) (1 ∷ 4 ∷ [])
    ∷ fetches "R3.2 pushq, popq: function 0" ((2, 0xa00f) ∷ (2, 0xa10f) ∷ (2, 0xb00f) ∷ (2, 0xb10f) ∷ []) (1 ∷ 4 ∷ 1 ∷ 4 ∷ [])
    ∷ fetches "R3.2 iaddq: function 0" ((10, 0xc0f1_0000000000000000) ∷ (10, 0xc1f1_0000000000000000) ∷ (10, 0xcff1_0000000000000000) ∷ []) (1 ∷ 4 ∷ 4 ∷ [])
    ∷ fetches "R3.2 D to F: none" ((1, 0xd0) ∷ (1, 0xdf) ∷ (1, 0xe0) ∷ (1, 0xf0) ∷ (1, 0xff) ∷ []) (4 ∷ 4 ∷ 4 ∷ 4 ∷ 4 ∷ [])
    -- the table's lengths: a byte too few; the images above are just long enough
    ∷ fetches "R3.2 a later byte outside memory, ADR: lengths 2" ((1, 0x20) ∷ (1, 0x60) ∷ (1, 0xa0) ∷ (1, 0xb0) ∷ []) (3 ∷ 3 ∷ 3 ∷ 3 ∷ [])
    ∷ fetches "R3.2 a later byte outside memory, ADR: lengths 10"
    ((9, 0x30f1_00000000000000) ∷ (9, 0x4001_00000000000000) ∷ (9, 0x5001_00000000000000) ∷ (9, 0xc0f1_00000000000000) ∷ (1, 0xc0) ∷ [])
    (3 ∷ 3 ∷ 3 ∷ 3 ∷ 3 ∷ [])
    ∷ fetches "R3.2 a later byte outside memory, ADR: lengths 9" ((8, 0x70_00000000000000) ∷ (8, 0x80_00000000000000) ∷ []) (3 ∷ 3 ∷ [])
    -- the order of the checks
    ∷ fetches_at "R4.1 first byte outside memory, ADR" 1 1 0x10 1 ((fetch_status, 3) ∷ (address, 1) ∷ [])
    ∷ fetches_at "R4.1 first byte outside memory, ADR: at the highest address" 1 1 0x10 (2 ^ 64 - 1) ((fetch_status, 3) ∷ (address, 2 ^ 64 - 1) ∷ [])
    ∷ fetches "R4.1 code or function not in the table before a later byte outside"
    ((1, 0x27) ∷ (1, 0x31) ∷ (1, 0x77) ∷ (1, 0x81) ∷ (1, 0xa1) ∷ (1, 0xc1) ∷ []) (4 ∷ 4 ∷ 4 ∷ 4 ∷ 4 ∷ 4 ∷ [])
    ∷ fetches "R4.1 a later byte outside before a named register that is 15"
    ((9, 0x40ff_00000000000000) ∷ (9, 0x30ff_00000000000000) ∷ []) (3 ∷ 3 ∷ [])
    -- named registers, by instruction and half, and fillers, which are not looked at
    ∷ fetches "R4.1 a named register that is 15: cmovXX" ((2, 0x20f0) ∷ (2, 0x200f) ∷ (2, 0x20ee) ∷ []) (4 ∷ 4 ∷ 1 ∷ [])
    ∷ fetches "R4.1 a named register that is 15: OPq" ((2, 0x60f0) ∷ (2, 0x600f) ∷ (2, 0x60ee) ∷ []) (4 ∷ 4 ∷ 1 ∷ [])
    ∷ fetches "R4.1 a named register that is 15: rmmovq"
    ((10, 0x40f0_0000000000000000) ∷ (10, 0x400f_0000000000000000) ∷ (10, 0x40ee_0000000000000000) ∷ []) (4 ∷ 4 ∷ 1 ∷ [])
    ∷ fetches "R4.1 a named register that is 15: mrmovq"
    ((10, 0x50f0_0000000000000000) ∷ (10, 0x500f_0000000000000000) ∷ (10, 0x50ee_0000000000000000) ∷ []) (4 ∷ 4 ∷ 1 ∷ [])
    ∷ fetches "R4.1 irmovq: fillers 0, 8, 14 and F, and a named register that is 15 beside a filler 8 and F"
    ((10, 0x3000_0000000000000000) ∷ (10, 0x3081_0000000000000000) ∷ (10, 0x30e2_0000000000000000) ∷ (10, 0x30fe_0000000000000000)
    ∷ (10, 0x308f_0000000000000000) ∷ (10, 0x30ff_0000000000000000) ∷ []) (1 ∷ 1 ∷ 1 ∷ 1 ∷ 4 ∷ 4 ∷ [])
    ∷ fetches "R4.1 iaddq: fillers 0, 8, 14 and F, and a named register that is 15 beside a filler 8 and F"
    ((10, 0xc000_0000000000000000) ∷ (10, 0xc081_0000000000000000) ∷ (10, 0xc0e2_0000000000000000) ∷ (10, 0xc0fe_0000000000000000)
    ∷ (10, 0xc08f_0000000000000000) ∷ (10, 0xc0ff_0000000000000000) ∷ []) (1 ∷ 1 ∷ 1 ∷ 1 ∷ 4 ∷ 4 ∷ [])
    ∷ fetches "R4.1 pushq: fillers 0, 8, 14 and F, and a named register that is 15 beside a filler 8 and F"
    ((2, 0xa000) ∷ (2, 0xa018) ∷ (2, 0xa02e) ∷ (2, 0xa0ef) ∷ (2, 0xa0f8) ∷ (2, 0xa0ff) ∷ []) (1 ∷ 1 ∷ 1 ∷ 1 ∷ 4 ∷ 4 ∷ [])
    ∷ fetches "R4.1 popq: fillers 0, 8, 14 and F, and a named register that is 15 beside a filler 8 and F"
    ((2, 0xb000) ∷ (2, 0xb018) ∷ (2, 0xb02e) ∷ (2, 0xb0ef) ∷ (2, 0xb0f8) ∷ (2, 0xb0ff) ∷ []) (1 ∷ 1 ∷ 1 ∷ 1 ∷ 4 ∷ 4 ∷ [])
    -- the fields
    ∷ fetches_at "R3.1 First byte is code and function; then a register byte rA:rB" 3 3 0x10_2623 1
    ((fetch_status, 1) ∷ (address, 1) ∷ (code, 2) ∷ (function, 6) ∷ (ra, 2) ∷ (rb, 3) ∷ (constant, 0) ∷ (next, 3) ∷ [])
    ∷ fetches_at "R3.1 a register byte rA:rB and an 8-byte constant C, least first" 10 10 0x5023_0102030405060708 0
    ((code, 5) ∷ (function, 0) ∷ (ra, 2) ∷ (rb, 3) ∷ (constant, 0x0807060504030201) ∷ (next, 10) ∷ [])
    ∷ fetches_at "R3.1 iaddq: F rB and an 8-byte constant C" 11 11 0x10_c0f3_0102030405060708 1
    ((fetch_status, 1) ∷ (code, 12) ∷ (function, 0) ∷ (ra, 15) ∷ (rb, 3) ∷ (constant, 0x0807060504030201) ∷ (next, 11) ∷ [])
    ∷ fetches_at "R4.2 a filler's half is 15: irmovq" 10 10 0x3083_0000000000000000 0 ((fetch_status, 1) ∷ (ra, 15) ∷ (rb, 3) ∷ [])
    ∷ fetches_at "R4.2 a filler's half is 15: iaddq" 10 10 0xc083_0000000000000000 0 ((fetch_status, 1) ∷ (ra, 15) ∷ (rb, 3) ∷ [])
    ∷ fetches_at "R4.2 a filler's half is 15: pushq" 2 2 0xa038 0 ((fetch_status, 1) ∷ (ra, 3) ∷ (rb, 15) ∷ [])
    ∷ fetches_at "R4.2 a filler's half is 15: popq" 2 2 0xb030 0 ((fetch_status, 1) ∷ (ra, 3) ∷ (rb, 15) ∷ [])
    ∷ fetches_at "R4.2 jXX has no register byte, so C follows the first" 9 9 0x76_f102030405060708 0
    ((fetch_status, 1) ∷ (code, 7) ∷ (function, 6) ∷ (ra, 15) ∷ (rb, 15) ∷ (constant, 0x08070605040302f1) ∷ (next, 9) ∷ [])
    ∷ fetches_at "R4.2 call has no register byte" 9 9 0x80_f102030405060708 0
    ((fetch_status, 1) ∷ (ra, 15) ∷ (rb, 15) ∷ (constant, 0x08070605040302f1) ∷ (next, 9) ∷ [])
    -- the open entry: refusal 1, and the nop that a fetch outside memory gives
    ∷ answers "R14.6 fetch, 1: N is 0" (fetch_answer empty 5) ((refusal, 1) ∷ (of address, 5) ∷ (of fetch_status, 3) ∷ (of code, 1) ∷ (of next, 5) ∷ [])
    ∷ answers "R14.6 fetch, 1: N is above 65,536" (fetch_answer (filled 65537 0x10) 5) ((refusal, 1) ∷ (of fetch_status, 3) ∷ [])
    ∷ answers "R14.6 fetch, N is 65,536" (fetch_answer (filled 65536 0x10) 5) ((refusal, 0) ∷ (of address, 5) ∷ (of fetch_status, 1) ∷ (of next, 6) ∷ [])
    -- why a fetch failed, and the byte at fault: each reason at the lowest address, and at a later one
    ∷ faults_of "R4.4 none for AOK and for halt" ((1, 0x10) ∷ (1, 0x00) ∷ (2, 0x6023) ∷ []) (0 ∷ 0 ∷ 0 ∷ 0 ∷ 0 ∷ 0 ∷ [])
    ∷ faults_of "R4.4 2, code: D to F, whatever the function" ((1, 0xd0) ∷ (1, 0xdf) ∷ (1, 0xe0) ∷ (1, 0xff) ∷ []) (2 ∷ 0 ∷ 2 ∷ 0 ∷ 2 ∷ 0 ∷ 2 ∷ 0 ∷ [])
    ∷ faults_of "R4.4 3, function: the byte at fault is the first" ((1, 0x01) ∷ (1, 0x27) ∷ (2, 0x64ff) ∷ (1, 0xc1) ∷ []) (3 ∷ 0 ∷ 3 ∷ 0 ∷ 3 ∷ 0 ∷ 3 ∷ 0 ∷ [])
    ∷ faults_of "R4.4 4, a later byte: the lowest missing address is N" ((1, 0x60) ∷ (1, 0x30) ∷ (9, 0x30f1_00000000000000) ∷ (8, 0x70_00000000000000) ∷ [])
    (4 ∷ 1 ∷ 4 ∷ 1 ∷ 4 ∷ 9 ∷ 4 ∷ 8 ∷ [])
    ∷ faults_of "R4.4 5, register: the byte at fault is the register byte" ((2, 0x20f0) ∷ (2, 0x600f) ∷ (2, 0xa0f0) ∷ (10, 0x30ff_0000000000000000) ∷ [])
    (5 ∷ 1 ∷ 5 ∷ 1 ∷ 5 ∷ 1 ∷ 5 ∷ 1 ∷ [])
    ∷ answers "R4.4 1, first byte: at N" (fetch_answer (image 3 0 0) 3) ((refusal, 0) ∷ (of fault, 1) ∷ (at, 3) ∷ [])
    ∷ answers "R4.4 1, first byte: beyond N it is not N that is at fault" (fetch_answer (image 3 0 0) 77) ((refusal, 0) ∷ (of fault, 1) ∷ (at, 77) ∷ [])
    ∷ answers "R4.4 1, first byte: at the highest address" (fetch_answer (image 3 0 0) (2 ^ 64 - 1)) ((of fault, 1) ∷ (at, 2 ^ 64 - 1) ∷ [])
    ∷ answers "R4.4 2, code: later" (fetch_answer (image 5 5 0x10101010_d0) 4) ((of fault, 2) ∷ (at, 4) ∷ [])
    ∷ answers "R4.4 3, function: later" (fetch_answer (image 5 5 0x10101010_91) 4) ((of fault, 3) ∷ (at, 4) ∷ [])
    ∷ answers "R4.4 4, a later byte: later" (fetch_answer (image 5 5 0x101010_30f1) 3) ((of fault, 4) ∷ (at, 5) ∷ [])
    ∷ answers "R4.4 5, register: later" (fetch_answer (image 5 5 0x101010_60f0) 3) ((of fault, 5) ∷ (at, 4) ∷ [])
    ∷ answers "R4.4 a refused fetch: as the first byte outside memory" (fetch_answer empty 5) ((refusal, 1) ∷ (of fault, 1) ∷ (at, 5) ∷ [])
    -- and in the record of each engine after its stop
    ∷ clocked "R4.5 the pipeline: none while it runs" (F 3 ∷ []) (image 5 5 0x101010_60f0) 4 ((blamed, 0) ∷ (blamed_at, 0) ∷ [])
    ∷ clocked "R4.5 the pipeline: register" (F 3 ∷ []) (image 5 5 0x101010_60f0) 5 ((status, 4) ∷ (last, 3) ∷ (blamed, 5) ∷ (blamed_at, 4) ∷ [])
    ∷ clocked "R4.5 the pipeline: a later byte" (F 3 ∷ []) (image 5 5 0x101010_30f1) 5 ((status, 3) ∷ (last, 3) ∷ (blamed, 4) ∷ (blamed_at, 5) ∷ [])
    ∷ clocked "R4.5 the pipeline: the first byte, beyond N" (F 9 ∷ []) (image 5 0 0) 5 ((status, 3) ∷ (last, 9) ∷ (blamed, 1) ∷ (blamed_at, 9) ∷ [])
    ∷ clocked "R4.5 the pipeline: halt has none" [] (image 5 0 0) 5 ((status, 2) ∷ (blamed, 0) ∷ (blamed_at, 0) ∷ [])
    ∷ clocked "R4.5 the pipeline: an access outside has none" (W (popq 1 7) 0 true 0 adr ∷ []) (image 5 0 0) 1 ((status, 3) ∷ (last, 7) ∷ (blamed, 0) ∷ (blamed_at, 0) ∷ [])
    ∷ clocked "R4.5 the pipeline: what the instruction in W carries, and memory as it then is" (W (blamed_for (faulty later_missing) (nop 7)) 0 true 0 ins ∷ []) (image 20 0 0) 1
    ((status, 4) ∷ (last, 7) ∷ (blamed, 4) ∷ (blamed_at, 20) ∷ [])
    ∷ performed "R4.5 the plain engine: function, none before it" (plain_start no_window (given []) (coded 4) 0) (image 5 5 0x10_91_101010) 1 (0 ∷ []) ((plain_fault, 0) ∷ [])
    ∷ performed "R4.5 the plain engine: function" (plain_start no_window (given []) (coded 4) 0) (image 5 5 0x10_91_101010) 2 (0 ∷ 0 ∷ [])
    ((plain_status, 4) ∷ (plain_fault, 3) ∷ (plain_fault_at, 1) ∷ [])
    ∷ performed "R4.5 the plain engine: halt has none" (plain_start no_window (given []) (coded 4) 0) (image 5 1 0x10) 2 (0 ∷ 0 ∷ []) ((plain_status, 2) ∷ (plain_fault, 0) ∷ [])
    ∷ performed "R4.5 the plain engine: an access outside has none" (plain_start no_window (given []) (coded 4) 0) (image 5 2 0xb01f) 2 (0 ∷ 0 ∷ [])
    ((plain_status, 3) ∷ (plain_fault, 0) ∷ (plain_fault_at, 0) ∷ [])
    -- "An instruction fetched with status not AOK travels as a nop with that status; its predicted address is its own."
    ∷ clocked "R4.3 a bad fetch travels as a nop: INS" (F 1 ∷ []) (image 3 3 0x10_64_23) 1
    ((d address, 1) ∷ (d fetch_status, 4) ∷ (d code, 1) ∷ (d function, 0) ∷ (d ra, 15) ∷ (d rb, 15) ∷ (d constant, 0) ∷ (d next, 1) ∷ (predicted, 1) ∷ [])
    ∷ clocked "R4.3 its predicted address is its own: HLT" (F 2 ∷ []) (image 4 2 0x1010) 1
    ((d fetch_status, 2) ∷ (d code, 1) ∷ (d next, 2) ∷ (predicted, 2) ∷ [])
    ∷ clocked "R4.3 its predicted address is its own: ADR" (F 3 ∷ []) (image 3 3 0x101010) 1
    ((d fetch_status, 3) ∷ (d code, 1) ∷ (d next, 3) ∷ (predicted, 3) ∷ [])
    -- prediction
    ∷ clocked "R8.4 Prediction: jXX goes to C, whatever its condition" (F 1 ∷ []) (image 10 10 0x10_73_2a00000000000000) 1
    ((predicted, 42) ∷ (d next, 10) ∷ [])
    ∷ clocked "R8.4 Prediction: call goes to C" (F 1 ∷ []) (image 10 10 0x10_80_2a00000000000000) 1 ((predicted, 42) ∷ (d next, 10) ∷ [])
    ∷ clocked "R8.4 others to the next address: ret" (F 1 ∷ []) (image 2 2 0x10_90) 1 ((predicted, 2) ∷ (d next, 2) ∷ [])
    ∷ clocked "R8.4 others to the next address: irmovq" [] (image 10 10 0x30f1_2a00000000000000) 1 ((predicted, 10) ∷ [])
    ∷ clocked "R8.4 others to the next address: iaddq" [] (image 10 10 0xc0f1_2a00000000000000) 1 ((predicted, 10) ∷ [])
    ∷ []

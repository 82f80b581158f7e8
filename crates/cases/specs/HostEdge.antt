-- The host edge's rules, rows as in the crate records.
use Rattle.std.specs.Prelude.{ℕ, zero, suc, ◌+◌, ◌-◌, ◌*◌, ◌^◌, false, List, [], ◌∷◌, ◌≡◌, refl, eqb, length, replicate}
use Prim.Native.String.{String}
use Rattle.machine.specs.Words.{number}
use Rattle.replay_ends.specs.declared.settings.Numbers.{Numbers}
use Rattle.replay_ends.specs.Ends.{numbers as chosen, replay_refusal, edge_refusal, numbers_refused}
use Rattle.edge.specs.Edge.{Edge, edge, replayed_by, replayed, replayed_set}
use Rattle.records.specs.Given.{image}
use Rattle.records.specs.Looks.{Row, Look, answers, numbers, failing}
use Rattle.cases.specs.Computing.{computing}

-- n registers from one that holds v on, each holding one more: eight bytes each, least first
abbrev rising : (v n : ℕ) → List ℕ
rising v zero = []
rising v (suc n) = v ∷ 0 ∷ 0 ∷ 0 ∷ 0 ∷ 0 ∷ 0 ∷ 0 ∷ rising (v + 1) n

-- what is lent: register q holds 100 + q, and the result block nines
abbrev replays : String → (size bytes written start codes budget : ℕ) → List (Look Edge) → Row
replays s n k x a c b = answers s (replayed (image n k x).bytes (rising 100 15) (replicate 40 9) a c b)

-- the answer, a word of the register block and of the result block by its place, a word of memory by its address
abbrev answer : Edge → ℕ
answer r = r.answer

abbrev register : ℕ → Edge → ℕ
register q r = number 8 r.registers (8 * q)

abbrev result : ℕ → Edge → ℕ
result j r = number 8 r.result (8 * j)

abbrev word : ℕ → Edge → ℕ
word a r = number 8 r.memory a

-- the number with these sizes, start, codes and budget
abbrev refuses : String → ℕ → (memory registers result start codes budget : ℕ) → Row
refuses s n m r b a c y = numbers s (edge_refusal m r b a c y ∷ []) (n ∷ [])

-- with settings by their numbers: rule, late, windowed, first, end
abbrev set : String → Numbers → (size bytes written start codes budget : ℕ) → List (Look Edge) → Row
set s t n k x a c b = answers s (replayed_set t (image n k x).bytes (rising 100 15) (replicate 88 9) a c b)

-- the number with these settings, in 16 bytes of memory and with a result block of 88
abbrev refuses_set : String → Numbers → ℕ → Row
refuses_set s t n = numbers s (replay_refusal 88 (numbers_refused t 16) 16 120 88 0 4 9 ∷ []) (n ∷ [])

unfoldable pub rows_of_settings : List Row
rows_of_settings =
    set "R15.5 all eleven words: a later byte missing" (chosen 0 0 0 9 9) 2 2 0x10_30 0 3 9
    ((answer, 0) ∷ (result 0, 3) ∷ (result 1, 1) ∷ (result 2, 3) ∷ (result 3, 2) ∷ (result 4, 6) ∷ (result 5, 0) ∷ (result 6, 0) ∷ (result 7, 0) ∷ (result 8, 0)
    ∷ (result 9, 4) ∷ (result 10, 2) ∷ [])
    ∷ set "R15.5 a jump that is not taken, by rule 0" (chosen 0 0 0 0 0) 10 9 0x74_0900000000000000 0 4 20
    ((result 0, 2) ∷ (result 4, 8) ∷ (result 6, 2) ∷ [])
    ∷ set "R15.5 a jump that is not taken, by rule 1" (chosen 1 0 0 0 0) 10 9 0x74_0900000000000000 0 4 20
    ((result 0, 2) ∷ (result 4, 6) ∷ (result 6, 0) ∷ [])
    ∷ set "R15.5 an instruction behind the window" (chosen 0 0 1 0 3) 5 5 0x10_60_00_0000 0 4 20 ((result 0, 3) ∷ (result 1, 3) ∷ (result 9, 1) ∷ (result 10, 3) ∷ [])
    ∷ set "R15.5 a window that cuts an instruction" (chosen 0 0 1 0 2) 5 5 0x10_60_00_0000 0 4 20 ((result 0, 3) ∷ (result 1, 1) ∷ (result 9, 4) ∷ (result 10, 2) ∷ [])
    ∷ set "R15.5 an empty window stops at the first instruction" (chosen 0 0 1 2 2) 5 5 0x10_60_00_0000 0 4 20
    ((result 0, 3) ∷ (result 1, 0) ∷ (result 9, 1) ∷ (result 10, 0) ∷ [])
    ∷ set "R15.5 5 changes nothing" (chosen 3 0 0 0 0) 5 5 0x10_60_00_0000 0 4 20 ((answer, 5) ∷ (result 0, 0x0909090909090909) ∷ (register 0, 100) ∷ [])
    ∷ refuses_set "R15.5 each number at its end" (chosen 2 1 1 16 16) 0
    ∷ refuses_set "R15.5 5: a rule over 2" (chosen 3 0 0 0 0) 5
    ∷ refuses_set "R15.5 5: late over 1" (chosen 0 2 0 0 0) 5
    ∷ refuses_set "R15.5 5: windowed over 1" (chosen 0 0 2 0 0) 5
    ∷ refuses_set "R15.5 5: a first above N" (chosen 0 0 1 17 17) 5
    ∷ refuses_set "R15.5 5: an end above N" (chosen 0 0 1 0 17) 5
    ∷ refuses_set "R15.5 5: an end below the first" (chosen 0 0 1 9 8) 5
    ∷ refuses_set "R15.5 first and end are looked at only with a window" (chosen 0 0 0 99 8) 0
    ∷ []

unfoldable pub rows_of_replays : List Row
rows_of_replays =
    -- "Result words: status (AOK if the budget was spent), last address, codes, retired, cycles."
    replays "R15.3 Result words at a stop" 3 3 0x10_10_00 1 3 9
    ((answer, 0) ∷ (result 0, 2) ∷ (result 1, 2) ∷ (result 2, 3) ∷ (result 3, 2) ∷ (result 4, 6) ∷ [])
    ∷ replays "R15.3 AOK if the budget was spent" 3 3 0x10_10_00 1 3 5
    ((answer, 0) ∷ (result 0, 1) ∷ (result 1, 1) ∷ (result 2, 3) ∷ (result 3, 1) ∷ (result 4, 5) ∷ [])
    ∷ replays "R11.4 last address: the start, before any retired" 3 3 0x10_10_00 1 3 4 ((result 0, 1) ∷ (result 1, 1) ∷ (result 3, 0) ∷ (result 4, 4) ∷ [])
    -- "codes as 4ZF + 2SF + OF"
    -- #109: "a fresh start address not below N" is refused; an address reached later is ADR, as before
    ∷ replays "R14.1 the last byte of memory is a start" 3 3 0x10_10_00 2 3 9 ((answer, 0) ∷ (result 0, 2) ∷ (result 1, 2) ∷ [])
    ∷ replays "R14.1 6 changes nothing" 3 3 0x10_10_00 3 3 9 ((answer, 6) ∷ (result 0, 0x0909090909090909) ∷ (register 0, 100) ∷ [])
    ∷ replays "R14.7 an address outside that is reached stops with ADR" 2 2 0x10_10 1 3 9 ((answer, 0) ∷ (result 0, 3) ∷ (result 1, 2) ∷ [])
    ∷ replays "R15.1 codes: OF" 1 1 0x00 0 1 5 ((result 2, 1) ∷ [])
    ∷ replays "R15.1 codes: SF, by which jl goes to 10" 11 9 0x72_0a00000000000000 0 2 9 ((result 1, 10) ∷ (result 2, 2) ∷ [])
    ∷ replays "R15.1 codes: ZF, by which je goes to 10" 11 9 0x73_0a00000000000000 0 4 9 ((result 1, 10) ∷ (result 2, 4) ∷ [])
    ∷ []

-- "leaves the final registers and memory in the lent bytes"
unfoldable pub rows_of_bytes : List Row
rows_of_bytes =
    replays "R15.3 the final registers, each in its place" 12 3 0x20_e0_00 0 4 9
    ((register 0, 114) ∷ (register 1, 101) ∷ (register 4, 104) ∷ (register 13, 113) ∷ (register 14, 114) ∷ [])
    ∷ replays "R15.3 the final memory" 104 3 0xa0_3f_00 0 4 9 ((register 4, 96) ∷ (word 96, 103) ∷ [])
    ∷ []

-- each refusal at both ends
unfoldable pub rows_of_refusals : List Row
rows_of_refusals =
    refuses "R14.1 1: N is 0" 1 0 120 40 0 7 1
    ∷ refuses "R14.1 1: N is above 65,536" 1 65537 120 40 0 7 1
    ∷ refuses "R15.2 2: registers not 120 bytes: one less" 2 1 119 40 0 7 1
    ∷ refuses "R15.2 2: registers not 120 bytes: one more" 2 1 121 40 0 7 1
    ∷ refuses "R15.4 3: budget 0" 3 1 120 40 0 7 0
    ∷ refuses "R15.4 3: budget over the limit" 3 1 120 40 0 7 262146
    ∷ refuses "R15.2 4: result block not 40 bytes: one less" 4 1 120 39 0 7 1
    ∷ refuses "R15.2 4: result block not 40 bytes: one more" 4 1 120 41 0 7 1
    ∷ refuses "R14.1 5: codes over 7" 5 1 120 40 0 8 1
    ∷ refuses "R14.1 6: a start at N" 6 4096 120 40 4096 7 1
    ∷ refuses "R14.1 6: the highest start" 6 65536 120 40 (2 ^ 64 - 1) 7 1
    ∷ refuses "R14.2 0: each at its end" 0 65536 120 40 65535 7 262145
    -- "Lowest number wins": with all wrong at first, and the lowest put right each time
    ∷ refuses "R14.2 1 before 2 to 6" 1 0 0 0 1 8 0
    ∷ refuses "R14.2 2 before 3 to 6" 2 1 0 0 1 8 0
    ∷ refuses "R14.2 3 before 4 to 6" 3 1 120 0 1 8 0
    ∷ refuses "R14.2 4 before 5 and 6" 4 1 120 0 1 8 1
    ∷ refuses "R14.2 5 before 6" 5 1 120 40 1 8 1
    ∷ []

-- every row holds: of each list none is failing
pub edge_rows_hold : (failing rows_of_replays ≡ []) × (failing rows_of_bytes ≡ []) × (failing rows_of_refusals ≡ []) × (failing rows_of_settings ≡ [])
unfolding failing computing rows_of_replays rows_of_bytes rows_of_refusals rows_of_settings
edge_rows_hold = (refl, refl, refl, refl)

-- "number, nothing changed", by whatever number it is refused
pub edge_unchanged : (m registers result : List ℕ) (start codes budget : ℕ)
    → let n = edge_refusal (length m) (length registers) (length result) start codes budget in
    eqb n 0 ≡ false → replayed m registers result start codes budget ≡ edge n m registers result
unfolding replayed replayed_by
edge_unchanged m registers result start codes budget h = rw h

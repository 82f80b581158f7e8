-- Prediction by each rule (02, #105): rows R8.7, and what a wrong guess asks of fetch, controls and charges.
use Rattle.std.specs.Prelude.{ℕ, true, false, List, [], ◌∷◌}
use Prim.Native.String.{String}
use Rattle.records.specs.Names.{aok}
use Rattle.records.specs.Given.{image, rule, keeps, D, E, M, nop, jump}
use Rattle.records.specs.Looks.{Row, clocked, predicted, bubble}
use Rattle.records.specs.Clocks.{fetches_from, controls, charges}

-- by that rule, the address predicted behind the nine bytes of a jump fetched at 0
abbrev predicts : String → (rule bytes next : ℕ) → Row
predicts s n x a = clocked s (rule n ∷ []) (image 9 9 x) 1 ((predicted, a) ∷ [])

unfoldable pub rows_of_guesses : List Row
rows_of_guesses =
    -- "taken; conditional jumps never taken; or taken exactly when C is below the next address, without sign"
    predicts "R8.7 rule 0: taken" 0 0x71_14_00_00_00_00_00_00_00 20
    ∷ predicts "R8.7 rule 1: never taken" 1 0x71_14_00_00_00_00_00_00_00 9
    ∷ predicts "R8.7 rule 1: never taken, C below" 1 0x71_03_00_00_00_00_00_00_00 9
    ∷ predicts "R8.7 rule 2: taken, C just below the next address" 2 0x71_08_00_00_00_00_00_00_00 8
    ∷ predicts "R8.7 rule 2: not taken, C above" 2 0x71_0a_00_00_00_00_00_00_00 9
    ∷ predicts "R8.7 rule 2: without sign" 2 0x71_ff_ff_ff_ff_ff_ff_ff_ff 9
    -- "The unconditional jump always goes to C."
    ∷ predicts "R8.7 the unconditional jump, rule 1" 1 0x70_14_00_00_00_00_00_00_00 20
    ∷ predicts "R8.7 the unconditional jump, rule 2" 2 0x70_14_00_00_00_00_00_00_00 20
    ∷ predicts "R8.7 call, rule 1" 1 0x80_14_00_00_00_00_00_00_00 20
    -- a misprediction is an outcome that differs from the guess
    ∷ controls "R10.2 rule 1: taken all the same" (rule 1 ∷ D (nop 1) ∷ E (jump 3 40 2) 0 0 ∷ []) 31 bubble bubble 2
    ∷ controls "R10.2 rule 1: not taken, as guessed" (rule 1 ∷ D (nop 1) ∷ E (jump 4 40 2) 0 0 ∷ []) 31 30 1 2
    ∷ controls "R10.2 rule 1: the unconditional jump" (rule 1 ∷ D (nop 1) ∷ E (jump 0 40 2) 0 0 ∷ []) 31 30 1 2
    ∷ controls "R10.2 rule 2: C above, taken" (rule 2 ∷ D (nop 1) ∷ E (jump 3 40 2) 0 0 ∷ []) 31 bubble bubble 2
    ∷ controls "R10.2 rule 2: C above, not taken" (rule 2 ∷ D (nop 1) ∷ E (jump 4 40 2) 0 0 ∷ []) 31 30 1 2
    ∷ controls "R10.2 rule 2: C below, taken" (rule 2 ∷ D (nop 1) ∷ E (jump 3 10 2) 0 0 ∷ []) 31 30 1 2
    ∷ controls "R10.2 rule 2: C below, not taken" (rule 2 ∷ D (nop 1) ∷ E (jump 4 10 2) 0 0 ∷ []) 31 bubble bubble 2
    ∷ controls "R10.2 rule 2: C is the next address, taken" (rule 2 ∷ D (nop 1) ∷ E (jump 3 11 2) 0 0 ∷ []) 31 bubble bubble 2
    ∷ controls "R10.2 rule 2: C is the next address, not taken" (rule 2 ∷ D (nop 1) ∷ E (jump 4 11 2) 0 0 ∷ []) 31 30 1 2
    -- "a wrongly taken guess and a wrongly skipped one are both mended by the fetch address when the jump stands in M"
    ∷ fetches_from "R8.5 rule 1: wrongly skipped, C" (rule 1 ∷ M (jump 3 40 1) 0 0 true ∷ []) 40
    ∷ fetches_from "R8.5 rule 1: rightly skipped" (rule 1 ∷ M (jump 3 40 1) 0 0 false ∷ []) 30
    ∷ fetches_from "R8.5 rule 2: wrongly taken, the next address" (rule 2 ∷ M (jump 3 8 1) 0 0 false ∷ []) 10
    ∷ fetches_from "R8.5 rule 2: wrongly skipped, C" (rule 2 ∷ M (jump 3 40 1) 0 0 true ∷ []) 40
    -- "The charge of 2 falls after a conditional jump whose outcome differs from the prediction"
    ∷ charges "R11.5 rule 1: 2 behind a jump taken" (rule 1 ∷ keeps (jump 1 40 0) true ∷ []) (nop 7) aok 20 22 20
    ∷ charges "R11.5 rule 1: 0 behind a jump not taken" (rule 1 ∷ keeps (jump 1 40 0) false ∷ []) (nop 7) aok 20 20 20
    ∷ charges "R11.5 rule 2: 2 behind a jump taken, C above" (rule 2 ∷ keeps (jump 1 40 0) true ∷ []) (nop 7) aok 20 22 20
    ∷ charges "R11.5 rule 2: 0 behind a jump taken, C below" (rule 2 ∷ keeps (jump 1 8 0) true ∷ []) (nop 7) aok 20 20 20
    ∷ charges "R11.5 rule 2: 2 behind a jump not taken, C below" (rule 2 ∷ keeps (jump 1 8 0) false ∷ []) (nop 7) aok 20 22 20
    ∷ charges "R11.5 rule 1: 0 behind the unconditional jump" (rule 1 ∷ keeps (jump 0 40 0) true ∷ []) (nop 7) aok 20 20 20
    ∷ []

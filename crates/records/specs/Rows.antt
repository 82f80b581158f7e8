-- THE TABLE HOLDS. A row begins with the number of its rule in docs/RULES.md.
use Rattle.std.specs.Prelude.{◌≡◌, refl, []}
use Rattle.records.specs.Looks.{failing}
use Rattle.records.specs.Fetches.{rows_of_fetch}
use Rattle.records.specs.Works.{rows_of_sources, rows_of_results, rows_of_accesses}
use Rattle.records.specs.Clocks.{rows_of_clock}
use Rattle.records.specs.Guesses.{rows_of_guesses}
use Rattle.records.specs.Late.{rows_of_late}
use Rattle.records.specs.Patches.{rows_of_patches}
use Rattle.records.specs.Entries.{rows_of_entries}

-- every row holds: of each list none is failing. The lists are short enough that a refusal shows the rows that fail
pub rows_hold : (failing rows_of_fetch ≡ []) × (failing rows_of_sources ≡ []) × (failing rows_of_results ≡ []) × (failing rows_of_accesses ≡ [])
    × (failing rows_of_clock ≡ []) × (failing rows_of_guesses ≡ []) × (failing rows_of_late ≡ []) × (failing rows_of_patches ≡ [])
    × (failing rows_of_entries ≡ [])
unfolding failing rows_of_fetch rows_of_sources rows_of_results rows_of_accesses rows_of_clock rows_of_guesses rows_of_late rows_of_patches rows_of_entries
rows_hold = (refl, refl, refl, refl, refl, refl, refl, refl, refl)

-- A test on the plain history that is to be true exactly when the weakest premise holds.
use Rattle.std.specs.Prelude.{ℕ, Bool, ◌&&◌, ◌||◌, eqb}
use Rattle.account.specs.Names.{Instruction}
use Rattle.machine.specs.Types.{status_number, fault_number}
use Rattle.machine.specs.Fetch.{fetch}
use Rattle.machine.specs.Plain.{Plain, is_stopped, fetched, steps}
use Rattle.clocked.specs.Prediction.{Core}
use Rattle.account.specs.Seen.{seen}
use Rattle.account.specs.Decide.{all}

-- ONE INSTRUCTION AND ANOTHER, field for field
unfoldable pub same : Instruction → Instruction → Bool
same i j =
    eqb i.address j.address && (eqb (status_number i.status) (status_number j.status)
    && (eqb i.code j.code && (eqb i.function j.function
    && (eqb i.ra j.ra && (eqb i.rb j.rb && (eqb i.constant j.constant && (eqb i.next j.next
    && eqb (fault_number i.fault) (fault_number j.fault))))))))

-- ONE FETCH
unfoldable pub is_alike : Core → Plain → ℕ → Bool
is_alike g s n = same (fetch (seen g s n) (steps s n).machine.address) (fetched (steps s n))

-- ALL OF THEM
-- instruction n + 1 is not performed, or it is fetched alike
unfoldable pub well_fetched : Core → Plain → ℕ → Bool
well_fetched g s n = is_stopped (steps s n) || is_alike g s n

unfoldable pub all_alike : Core → Plain → ℕ → Bool
all_alike g s K = all K (well_fetched g s)

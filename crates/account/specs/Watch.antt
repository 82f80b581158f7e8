-- Where the premise breaks: the first instruction at which document 01's does, and the first at which the weakest does.
use Rattle.std.specs.Prelude.{ℕ, zero, suc, ◌<◌, Bool, false, cond, ◌≡◌, eqb}
use Rattle.machine.specs.Types.{is_set}
use Rattle.machine.specs.Plain.{Plain, is_stopped, steps}
use Rattle.clocked.specs.Prediction.{Core}
use Rattle.account.specs.Seen.{FetchedAlike, Seen}
use Rattle.account.specs.Decide.{clear}
use Rattle.account.specs.DecideSeen.{well_fetched}

-- the first of 1 to n at which a test fails, 0 for none
unfoldable pub first_failing : (ℕ → Bool) → ℕ → ℕ
first_failing f zero = 0
first_failing f (suc n) =
    let k = first_failing f n in
    cond (eqb k 0) (cond (f n) 0 (suc n)) k

-- THE WATCH over the first n instructions: the first that one of the three before it wrote into, which with a window set is not asked; and the
-- first that the pipeline fetches as another instruction
unfoldable pub written_into : Plain → ℕ → ℕ
written_into s n = cond (is_set s.memory.window) 0 (first_failing (clear 3 s) n)

unfoldable pub mistaken : Core → Plain → ℕ → ℕ
mistaken g s n = first_failing (well_fetched g s) n

-- the first that is mistaken: it is performed, those before it are fetched alike, and it is not
pub record FirstMistaken (g : Core) (s : Plain) (n k : ℕ) : Type 0 where
  pub below : k < n
  pub runs : is_stopped (steps s k) ≡ false
  pub before : Seen g s k
  pub other : FetchedAlike g s k → ⊥

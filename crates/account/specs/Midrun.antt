-- What memory and codes hold in mid-run.
use Rattle.std.specs.Prelude.{ℕ, ◌+◌, ◌≡◌}
use Rattle.machine.specs.Plain.{Plain, steps}
use Rattle.clocked.specs.Prediction.{Core}
use Rattle.clocked.specs.Pipeline.{Piped}
use Rattle.account.specs.Statement.{DueBy}

-- after c clocks: the stores of the first a instructions are in memory, and the codes are those of the first b
pub record Landed (g : Core) (s : Plain) (p : Piped) (c a b : ℕ) : Type 0 where
  pub stores : DueBy g s (c + 1) a
  pub memory : p.memory ≡ (steps s a).memory
  pub sets : DueBy g s (c + 2) b
  pub codes : p.pipeline.codes ≡ (steps s b).machine.codes

-- A test of whether two images differ only where nothing is looked at, on a plain run that stops.
use Rattle.std.specs.Prelude.{ℕ, Bool, ◌&&◌, ◌||◌}
use Rattle.std.proofs.Math.Bool.{not}
use Rattle.std.proofs.Math.Dec.{eqb}
use Rattle.machine.specs.Memory.{Memory, size}
use Rattle.machine.specs.Plain.{Plain, is_stopped, steps}
use Rattle.published.specs.Fetching.{M₁}
use Rattle.account.specs.Decide.{all}
use Rattle.junk.specs.Statement.{looks_at, reads_byte}

-- none of the first K instructions from s does f to the byte at x
unfoldable pub never : (Plain → ℕ → Bool) → Plain → ℕ → ℕ → Bool
never f s K x = all K (λ n. is_stopped (steps s n) || not (f (steps s n) x))

unfoldable pub no_part : Plain → ℕ → ℕ → Bool
no_part s K x = never looks_at s K x && never reads_byte s K x

-- the bytes are as many, and differ only where the test p holds
unfoldable pub differs : (ℕ → Bool) → Memory → Memory → Bool
differs p m m' = eqb (size m) (size m') && all (size m) (λ x. eqb (M₁ m x) (M₁ m' x) || p x)

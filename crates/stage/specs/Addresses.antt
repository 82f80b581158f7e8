-- The fetch address, where what E found of a jump is at hand.
use Rattle.std.specs.Prelude.{ℕ, Bool, cond, ◌≡◌, refl}
use Rattle.stage.specs.Types.{StageM, bubble_m, in_m}
use Rattle.machine.specs.Stages.{turned}
use Rattle.clocked.specs.Prediction.{Core}
use Rattle.clocked.specs.Pipeline.{wrong, mended}

-- b says that the jump in M was guessed wrongly
unfoldable pub mended_by : Bool → StageM → ℕ → ℕ
mended_by b bubble_m f = f
mended_by b (in_m x) f = cond b (turned x.instruction x.holds) f

-- said truly, it is document 01's
pub mended_by_lem : (g : Core) (m : StageM) (f : ℕ) → mended_by (wrong g m) m f ≡ mended g m f
unfolding mended_by wrong mended
mended_by_lem g bubble_m f = refl
mended_by_lem g (in_m x) f = refl

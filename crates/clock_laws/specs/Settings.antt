-- A record's settings stay as they are.
use Rattle.std.specs.Prelude.{ℕ, zero, suc, ◌≡◌, refl, Bool, true, false, cond}
use Rattle.std.proofs.Common.{◌∙◌}
use Rattle.machine.specs.Types.{is_bad}
use Rattle.clocked.specs.Record.{StageW}
use Rattle.clocked.specs.Record.{bubble_w, in_w}
use Rattle.clocked.specs.Prediction.{Core}
use Rattle.clocked.specs.Pipeline.{Piped, advanced, stopped_in, clock_by, clock, clocks}

-- whatever the core, one clock keeps them
pub clock_keeps : (g : Core) (p : Piped) → (clock g p).pipeline.settings ≡ p.pipeline.settings
unfolding clock clock_by advanced stopped_in
clock_keeps g p = go (is_bad p.pipeline.status) p.pipeline.w
  where
    go : (b : Bool) (w : StageW) → (cond b p (clock_by g p w)).pipeline.settings ≡ p.pipeline.settings
    go true w = refl
    go false bubble_w = refl
    go false (in_w x) = by (is_bad x.status)
      where
        by : (b : Bool) → (cond b (stopped_in g p x) (advanced g p)).pipeline.settings ≡ p.pipeline.settings
        by true = refl
        by false = refl

pub clocks_keep : (g : Core) (p : Piped) (n : ℕ) → (clocks g p n).pipeline.settings ≡ p.pipeline.settings
unfolding clocks
clocks_keep g p zero = refl
clocks_keep g p (suc n) = clock_keeps g (clocks g p n) ∙ clocks_keep g p n

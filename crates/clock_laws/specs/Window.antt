-- The memory's window stays as it is.
use Rattle.std.specs.Prelude.{ℕ, zero, suc, ◌≡◌, refl, Bool, true, false, cond}
use Rattle.std.proofs.Common.{◌∙◌}
use Rattle.machine.specs.Types.{is_bad}
use Rattle.machine.specs.Memory.{Memory}
use Rattle.clocked.specs.Record.{StageM}
use Rattle.clocked.specs.Record.{bubble_m, in_m}
use Rattle.clocked.specs.Record.{StageW}
use Rattle.clocked.specs.Record.{bubble_w, in_w}
use Rattle.clocked.specs.Prediction.{Core}
use Rattle.clocked.specs.Pipeline.{Piped, memory_after, advanced, stopped_in, clock_by, clock, clocks}
use Rattle.laws.specs.Window.{window_kept}

after_keeps : (x : StageM) (m : Memory) → (memory_after x m).window ≡ m.window
unfolding memory_after
after_keeps bubble_m m = refl
after_keeps (in_m x) m = window_kept x m

clock_sees : (g : Core) (p : Piped) → (clock g p).memory.window ≡ p.memory.window
unfolding clock clock_by advanced stopped_in
clock_sees g p = go (is_bad p.pipeline.status) p.pipeline.w
  where
    go : (b : Bool) (w : StageW) → (cond b p (clock_by g p w)).memory.window ≡ p.memory.window
    go true w = refl
    go false bubble_w = after_keeps p.pipeline.m p.memory
    go false (in_w x) = by (is_bad x.status)
      where
        by : (b : Bool) → (cond b (stopped_in g p x) (advanced g p)).memory.window ≡ p.memory.window
        by true = refl
        by false = after_keeps p.pipeline.m p.memory

pub clocks_see : (g : Core) (p : Piped) (n : ℕ) → (clocks g p n).memory.window ≡ p.memory.window
unfolding clocks
clocks_see g p zero = refl
clocks_see g p (suc n) = clock_sees g (clocks g p n) ∙ clocks_see g p n

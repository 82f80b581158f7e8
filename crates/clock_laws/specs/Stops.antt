-- What a stop leaves alone.
use Rattle.std.specs.Prelude.{ℕ, zero, suc, ◌+◌, ◌≡◌, true}
use Rattle.std.proofs.Common.{zero-add, suc-add, ap, ◌∙◌}
use Rattle.machine.specs.Types.{is_bad}
use Rattle.clocked.specs.Prediction.{Core}
use Rattle.clocked.specs.Pipeline.{Piped, clock, clocks}

-- "A step or clock on a stopped machine changes nothing, counts nothing and logs nothing."
pub clock_still : (g : Core) (p : Piped) → is_bad p.pipeline.status ≡ true → clock g p ≡ p
unfolding clock
clock_still g p h = rw h

pub stays : (g : Core) (p : Piped) (n k : ℕ) → is_bad (clocks g p n).pipeline.status ≡ true → clocks g p (k + n) ≡ clocks g p n
unfolding clocks
stays g p n zero h = rw zero-add
stays g p n (suc k) h = rw (suc-add k n) (ap (clock g) (stays g p n k h) ∙ clock_still g (clocks g p n) h)

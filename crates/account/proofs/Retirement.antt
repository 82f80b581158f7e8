-- One clock seen from W: which of the three it is, and what one in which an instruction retires counts and logs, whether it stops the machine or not.
use Rattle.std.specs.Prelude.{◌+◌, Bool, cond, [], ◌∷◌, ◌++◌, ◌≡◌}
use Rattle.std.proofs.Math.Bool.{true, false}
use Rattle.std.proofs.Math.Path.{refl}
use Rattle.account.specs.Names.{Accessed, StageW, bubble_w, in_w}
use Rattle.machine.specs.Types.{is_bad}
use Rattle.clocked.specs.Prediction.{Core}
use Rattle.clocked.specs.Charges.{counted, reason_from}
use Rattle.clocked.specs.Pipeline.{Piped, last_after, retired_after, kinds_after, logged, advanced, stopped_in, clock_by, clock}

pub record Books (g : Core) (p p' : Piped) (w : Accessed) : Type 0 where
  pub retired : p'.pipeline.retired ≡ p.pipeline.retired + 1
  pub counts : p'.pipeline.cycles ≡ p.pipeline.cycles + 1
  pub kinds : p'.pipeline.kinds ≡ counted p.pipeline.kinds (reason_from g p.pipeline.kept w.instruction)
  pub last : p'.pipeline.last ≡ w.instruction.address
  pub addresses : p'.address_log ≡ p.address_log ++ w.instruction.address ∷ []
  pub cycles : p'.cycle_log ≡ p.cycle_log ++ (p.pipeline.cycles + 1) ∷ []

module _ (g : Core) (p : Piped) where
  module _ (h : is_bad p.pipeline.status ≡ false) where
    pub clock_bubble : p.pipeline.w ≡ bubble_w → clock g p ≡ advanced g p
    unfolding clock clock_by
    clock_bubble w = cc

    module _ (w : Accessed) (k : p.pipeline.w ≡ in_w w) where
      pub clock_retires : is_bad w.status ≡ false → clock g p ≡ advanced g p
      unfolding clock clock_by
      clock_retires b = cc

      pub clock_stops : is_bad w.status ≡ true → clock g p ≡ stopped_in g p w
      unfolding clock clock_by
      clock_stops b = cc

  -- what holds of all three outcomes holds of the clock
  pub clock_any : (P : Piped → Type 0) → P p → P (advanced g p) → ((w : Accessed) → P (stopped_in g p w)) → P (clock g p)
  unfolding clock clock_by
  clock_any P still on stop = go (is_bad p.pipeline.status) p.pipeline.w
    where
      by : (w : Accessed) (b : Bool) → P (cond b (stopped_in g p w) (advanced g p))
      by w true = stop w
      by w false = on

      go : (b : Bool) (w : StageW) → P (cond b p (clock_by g p w))
      go true w = still
      go false bubble_w = on
      go false (in_w w) = by w (is_bad w.status)

  pub books_retires : (w : Accessed) → p.pipeline.w ≡ in_w w → Books g p (advanced g p) w
  unfolding advanced last_after retired_after kinds_after logged
  books_retires w k = record { retired = cc; counts = refl; kinds = cc; last = cc; addresses = cc; cycles = cc }

  pub books_stops : (w : Accessed) → Books g p (stopped_in g p w) w
  unfolding stopped_in
  books_stops w = record { retired = refl; counts = refl; kinds = refl; last = refl; addresses = refl; cycles = refl }

-- What a clock counts, in the words of clocked's Pipeline and Charges.
use Rattle.std.specs.Prelude.{ℕ, ◌+◌, ◌<◌, Bool, true, false, cond}
use Rattle.machine.specs.declared.Status.{Status}
use Rattle.machine.specs.declared.Status.TheVariants.{Aok as aok}
use Rattle.machine.specs.declared.Accessed.{Accessed}
use Rattle.clocked.specs.Record.{StageW}
use Rattle.clocked.specs.Record.{bubble_w, in_w}
use Rattle.clocked.specs.Record.{Kept}
use Rattle.clocked.specs.Record.{last_kept}
use Rattle.machine.specs.Types.{is_bad}
use Rattle.clocked.specs.Prediction.{Core}
use Rattle.clocked.specs.Charges.{retired_of}
use Rattle.clocked.specs.Pipeline.{bad_in_w, last_after, retired_after, kinds_after, kept_after}
use Rattle.retiring.specs.declared.Tally.{Tally}

-- what is kept is retired with AOK
unfoldable pub kept_by : Accessed → Kept → Kept
kept_by x k = cond (is_bad x.status) k (last_kept (retired_of x))

-- "An instruction retires in the clock in which it stands in W."
unfoldable pub retires : StageW → Bool
retires bubble_w = false
retires (in_w x) = true

-- the machine's status after the clock: AOK, but for a bad status in W
unfoldable pub status_after : StageW → Status
status_after bubble_w = aok
status_after (in_w x) = x.status

-- at a stop everything here changes but the instruction kept
unfoldable pub tally_after : Core → Tally → StageW → Tally
tally_after g t w =
    record {
      last = last_after w t.last;
      retired = retired_after w t.retired;
      cycles = t.cycles + 1;
      kinds = kinds_after g w t.kept t.kinds;
      kept = cond (bad_in_w w) t.kept (kept_after w t.kept);
    }

-- every count is below n, so that none wraps
pub record Small (n : ℕ) (t : Tally) : Type 0 where
  pub retired : t.retired < n
  pub cycles : t.cycles < n
  pub loaduse : t.kinds.loaduse < n
  pub mispredict : t.kinds.mispredict < n
  pub returned : t.kinds.returned < n
  pub patched : t.kinds.patched < n

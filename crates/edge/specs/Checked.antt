-- What a caller of the host edge may rely on beside its equation. Assumes nothing.
use Rattle.std.specs.Prelude.{◌≡◌, refl, Bool, false, List, ℕ, length}
use Rattle.clocked.specs.declared.Settings.{Settings}
use Rattle.clocked.specs.Charges.{no_kinds}
use Rattle.clocked.specs.Pipeline.{pipe_start}
use Rattle.machine.specs.Runs.{log_refused, window_refused}
use Rattle.clocked.specs.PipeRuns.{settings_refused, record_refused, counts_refused, refused_in_d, refused_in_e, refused_in_m, refused_in_w, refused_kept}
use Rattle.machine.specs.Runs.{lowest}
use Rattle.clocked.specs.PipeRuns.{pipe_refusal, pipe_done, pipe_by, pipe_run_unlogged}
use Rattle.replay_ends.specs.Ends.{replay_refusal}
use Rattle.replay_ends.specs.Allowed.{allowed}
use Rattle.edge.specs.Edge.{edge_run}

-- what a replay lets in, the run inside never refuses
pub runs_inside : (block : ℕ) (chosen : Bool) (s : Settings) (memory registers result : List ℕ) (start codes budget : ℕ)
    → settings_refused s ≡ false → window_refused s.window (length memory) ≡ false
    → replay_refusal block chosen (length memory) (length registers) (length result) start codes budget ≡ 0
    → (edge_run s memory registers start codes budget).number ≡ 0
unfolding edge_run pipe_run_unlogged pipe_by pipe_done pipe_refusal lowest log_refused window_refused
    record_refused counts_refused refused_in_d refused_in_e refused_in_m refused_in_w refused_kept pipe_start no_kinds
runs_inside block chosen s memory registers result start codes budget k w h =
    let a = allowed block chosen (length memory) (length registers) (length result) start codes budget _ refl h in
    rw (a.size, a.budgeted, k, w)

-- The stages' values through one clock, in the words of clocked's Pipeline: x is E's instruction after execution, y M's after its access.
use Rattle.std.specs.Prelude.{ℕ, Bool, cond, ◌||◌}
use Rattle.machine.specs.declared.Instruction.{Instruction}
use Rattle.clocked.specs.Record.{StageD}
use Rattle.clocked.specs.Record.{bubble_d, in_d}
use Rattle.clocked.specs.Record.{StageE}
use Rattle.clocked.specs.Record.{bubble_e, in_e}
use Rattle.clocked.specs.Record.{StageM}
use Rattle.clocked.specs.Record.{bubble_m}
use Rattle.clocked.specs.Record.{StageW}
use Rattle.machine.specs.Memory.{Memory, Registers, value}
use Rattle.machine.specs.Fetch.{fetch}
use Rattle.machine.specs.Stages.{decode}
use Rattle.clocked.specs.Prediction.{Core, predicted_next, meets}
use Rattle.clocked.specs.Pipeline.{after_e, after_m, handed, codes_after, past_result, past_both, waits_behind, wrong, ret_in_d, ret_in_e, ret_in_m, bad_in_w}
use Rattle.clocked.specs.Pipeline.{patched_in_w, returned_to, mended, restart}
use Rattle.stage.specs.declared.forwarding.Targets.{Targets}
use Rattle.stage.specs.declared.forwarding.Sources.{Sources}
use Rattle.stage.specs.Forwarding.{targets_m, targets_w, awaited_by}
use Rattle.flow.specs.declared.Flow.{Flow}
use Rattle.flow.specs.declared.Ahead.{Ahead}
use Rattle.flow.specs.declared.Signals.{Signals}

-- what is carried of M and W: their targets, and whether M holds a wrongly guessed jump
unfoldable pub ahead_of : Core → StageM → StageW → Ahead
ahead_of g m w = record { m = targets_m m; w = targets_w w; wrong = wrong g m }

-- b says that D waits
unfoldable pub signals_with : Core → Bool → StageD → StageE → StageM → StageM → StageW → Signals
signals_with g b d e m x y = record { waits = b; mispredicts = wrong g x; returns = ret_in_d d || (ret_in_e e || ret_in_m m); fails = bad_in_w y; cancels = patched_in_w y }

-- document 01's four signals, and that of #113
unfoldable pub signals_of : Core → StageD → StageE → StageM → StageM → StageW → Signals
signals_of g d e m x y = signals_with g (waits_behind g e d) d e m x y

-- by D's sources s and the targets t of what stood in E, as the code tests it
unfoldable pub signals_by : Core → Sources → Targets → StageD → StageE → StageM → StageM → StageW → Signals
signals_by g s t d e m x y = signals_with g (meets t.loaded (awaited_by g d s.a) || meets t.loaded s.b) d e m x y

-- what is fetched in a clock that began with f for the predicted address
unfoldable pub fetched_in : Core → StageM → StageW → ℕ → Memory → Instruction
fetched_in g m w f bytes = fetch bytes (mended g m (returned_to w f))

-- document 01's order of six: result in E, word and result in M, word and result in W, register file
unfoldable pub source_in : StageM → StageW → StageW → Registers → ℕ → ℕ
source_in x y w r q = past_result x q (past_both y q (past_both w q (value r q)))

-- decode on the register file before W's write
unfoldable pub decoded_in : StageD → StageM → StageW → StageW → Registers → StageE
decoded_in bubble_d x y w r = bubble_e
decoded_in (in_d i) x y w r = in_e (decode i (source_in x y w r))

-- the controls at the end of a clock, on the signals s, with i fetched and z decoded
unfoldable pub shifted_of : Core → Flow → Signals → StageM → StageW → Instruction → StageE → Flow
shifted_of g f s x y i z =
    let m = cond (s.cancels || s.fails) bubble_m x in
    record {
      predicted = cond s.cancels (restart f.m f.predicted) (cond (s.waits || s.returns) f.predicted (predicted_next g i));
      d = cond (s.cancels || s.mispredicts) bubble_d (cond s.waits f.d (cond s.returns bubble_d (in_d i)));
      e = cond (s.cancels || (s.mispredicts || s.waits)) bubble_e z;
      m = m;
      w = y;
      codes = cond (s.cancels || s.fails) f.codes (codes_after (handed g y f.e) f.codes);
      ahead = ahead_of g m y;
    }

-- a clock in which no bad status stands in W, from registers r and memory m as it began
unfoldable pub flow_after : Core → Flow → Registers → Memory → Flow
flow_after g f r m =
    let y = after_m f.m m in
    let x = after_e (handed g y f.e) f.codes in
    shifted_of g f (signals_of g f.d f.e f.m x y) x y (fetched_in g f.m f.w f.predicted m) (decoded_in f.d x y f.w r)

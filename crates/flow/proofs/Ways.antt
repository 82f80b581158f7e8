-- One law for each way out of a function, over variables for what its callees gave. Assumes nothing.
use mathlib.Core.Path.{◌≡◌, refl}
use mathlib.Core.Bool.{Bool, true, false, cond, not, ◌&&◌, ◌||◌}
use Prim.Native.Nat.{ℕ}
use lib.ListN.{length}
use Rattle.machine.specs.declared.Codes.{Codes}
use Rattle.machine.specs.declared.Instruction.{Instruction}
use Rattle.clocked.specs.Record.{StageD}
use Rattle.clocked.specs.Record.{bubble_d, in_d}
use Rattle.clocked.specs.Record.{StageE}
use Rattle.clocked.specs.Record.{bubble_e}
use Rattle.clocked.specs.Record.{StageM}
use Rattle.clocked.specs.Record.{bubble_m}
use Rattle.clocked.specs.Record.{StageW}
use Rattle.machine.specs.Memory.{Memory, Registers}
use Rattle.machine.specs.Fetch.{fetch}
use Rattle.clocked.specs.Prediction.{Core, predicted_next}
use Rattle.clocked.specs.Pipeline.{after_e, after_m, handed, codes_after, registers_after, wrong, returned_to, restart}
use Rattle.clock_laws.specs.Late.{codes_handed}
use Rattle.stage.specs.Addresses.{mended_by, mended_by_lem}
use Rattle.stage.specs.declared.forwarding.Targets.{Targets}
use Rattle.stage.specs.declared.forwarding.Sources.{Sources}
use Rattle.stage.specs.Forwarding.{no_targets, targets_m, targets_w, sources_d, written_by, decoded_by}
use Rattle.flow.specs.declared.Flow.{Flow}
use Rattle.flow.specs.declared.Ahead.{Ahead}
use Rattle.flow.specs.declared.Signals.{Signals}
use Rattle.flow.specs.Moving.{ahead_of, signals_with, signals_by, signals_of, fetched_in, decoded_in, shifted_of, flow_after}
use Rattle.flow.proofs.Sources.{targets_stay, written_is, waits_is, decoded_is}

-- by what is carried of M
fetched_is : (g : Core) (b : Bool) (m : StageM) (w : StageW) (f : ℕ) (bytes : Memory) (i : Instruction) → b ≡ wrong g m
    → i ≡ fetch bytes (mended_by b m (returned_to w f)) → i ≡ fetched_in g m w f bytes
unfolding fetched_in
fetched_is g b m w f bytes i p q = cc (mended_by_lem g m (returned_to w f))

-- with D's sources and the targets of what stood in E, the code's signals are document 01's
signals_same : (g : Core) (d : StageD) (e : StageE) (k : Codes) (m : StageM) (y : StageW)
    → signals_by g (sources_d d) (targets_m (after_e (handed g y e) k)) d e m (after_e (handed g y e) k) y ≡ signals_of g d e m (after_e (handed g y e) k) y
unfolding signals_by signals_of
signals_same g d e k m y = cc (waits_is g y e k d)

no_targets_lem : no_targets ≡ targets_m bubble_m
unfolding targets_m
no_targets_lem = refl

targets_of_lem : (b : Bool) (x : StageM) → cond b no_targets (targets_m x) ≡ targets_m (cond b bubble_m x)
targets_of_lem true x = no_targets_lem
targets_of_lem false x = refl

wrong_of_lem : (g : Core) (b v : Bool) (x : StageM) → v ≡ wrong g x → (v && not b) ≡ wrong g (cond b bubble_m x)
unfolding wrong
wrong_of_lem g true true x e = refl
wrong_of_lem g true false x e = refl
wrong_of_lem g false true x e = e
wrong_of_lem g false false x e = e

-- the write to W's targets, and decode on what is carried of E and M
pub registers_are : (w : StageW) (r s : Registers) (v : Targets) → v ≡ targets_w w → s ≡ written_by v w r → s ≡ registers_after w r
registers_are w r s v ev es = cc (written_is w r)

pub decoded_now : (d : StageD) (q : Sources) (t u v : Targets) (x : StageM) (y w : StageW) (r s : Registers) (z : StageE) → length r ≡ 15 → q ≡ sources_d d
    → t ≡ targets_m x → u ≡ targets_w y → v ≡ targets_w w → s ≡ written_by v w r → z ≡ decoded_by q t x u y s d → z ≡ decoded_in d x y w r
decoded_now d q t u v x y w r s z l eq et eu ev es e = cc (registers_are w r s v ev es, decoded_is x y w r l d)

-- what is carried of M and W is that of the stages, and of M's after its access
module _ (g : Core) (a : Ahead) (m : StageM) (w : StageW) (h : a ≡ ahead_of g m w) where
  wrong_carried : a.wrong ≡ wrong g m
  unfolding ahead_of
  wrong_carried = cc

  pub m_carried : (y : StageW) (bytes : Memory) → y ≡ after_m m bytes → a.m ≡ targets_w y
  unfolding ahead_of
  m_carried y bytes e = cc (targets_stay m bytes)

  pub w_carried : a.w ≡ targets_w w
  unfolding ahead_of
  w_carried = cc

-- the values after the stages' work, and then the controls on the signals
module _ (g : Core) (f : Flow) (r : Registers) (bytes : Memory) {x : StageM} {y : StageW} {i : Instruction} {t : Targets} {q : Sources} {z : StageE} {s : Signals}
    (h : f.ahead ≡ ahead_of g f.m f.w) (ex : x ≡ after_e (handed g y f.e) f.codes) (ey : y ≡ after_m f.m bytes)
    (ei : i ≡ fetch bytes (mended_by f.ahead.wrong f.m (returned_to f.w f.predicted)))
    (et : t ≡ targets_m x) (eq : q ≡ sources_d f.d) (ez : z ≡ decoded_in f.d x y f.w r) (es : s ≡ signals_by g q t f.d f.e f.m x y) where
  signals : s ≡ signals_of g f.d f.e f.m (after_e (handed g y f.e) f.codes) y
  signals = cc (signals_same g f.d f.e f.codes f.m y)

  fetched : i ≡ fetched_in g f.m f.w f.predicted bytes
  fetched = fetched_is g f.ahead.wrong f.m f.w f.predicted bytes i (wrong_carried g f.ahead f.m f.w h) ei

  wrongly : (s.mispredicts && not (s.cancels || s.fails)) ≡ wrong g (cond (s.cancels || s.fails) bubble_m x)
  unfolding signals_by signals_with
  wrongly = wrong_of_lem g (s.cancels || s.fails) s.mispredicts x (cc)

  pub flow_is : {p : ℕ} {d : StageD} {e : StageE} {m : StageM} {k : Codes} {u : Targets}
      → p ≡ cond s.cancels (restart f.m f.predicted) (cond (s.waits || s.returns) f.predicted (predicted_next g i))
      → d ≡ cond (s.cancels || s.mispredicts) bubble_d (cond s.waits f.d (cond s.returns bubble_d (in_d i)))
      → e ≡ cond (s.cancels || (s.mispredicts || s.waits)) bubble_e z → m ≡ cond (s.cancels || s.fails) bubble_m x
      → k ≡ cond (s.cancels || s.fails) f.codes (codes_after f.e f.codes) → u ≡ cond (s.cancels || s.fails) no_targets t
      → record {
        predicted = p;
        d = d;
        e = e;
        m = m;
        w = y;
        codes = k;
        ahead = record { m = u; w = f.ahead.m; wrong = s.mispredicts && not (s.cancels || s.fails) };
      } ≡ flow_after g f r bytes
  unfolding flow_after shifted_of ahead_of
  flow_is ep ed ee em ek eu =
      cc (m_carried g f.ahead f.m f.w h y bytes ey, fetched, signals, targets_of_lem (s.cancels || s.fails) x, wrongly, codes_handed g y f.e f.codes)

-- One law for each way out of a function. Assumes nothing.
use mathlib.Core.Path.{◌≡◌, ap, subst, ◌∙◌}
use mathlib.Core.Bool.{Bool, true, false}
use mathlib.Core.List.{List, [], ◌++◌}
use Prim.Native.Nat.{ℕ}
use lib.ListN.{length, drop, replicate}
use Rattle.std.specs.Prelude.{Result}
use Rattle.answers.specs.declared.Refused.{Refused}
use Rattle.answers.specs.Numbers.{number_in, record_in}
use Rattle.clocked.specs.declared.Settings.{Settings}
use Rattle.clocked.specs.declared.Pipeline.{Pipeline}
use Rattle.machine.specs.Memory.{lent}
use Rattle.clocked.specs.Prediction.{as_in_01}
use Rattle.clocked.specs.Pipeline.{pipe_start}
use Rattle.clocked.specs.PipeRuns.{pipe_started, PipeAnswer, pipe_answer, pipe_run_unlogged}
use Rattle.text.specs.Put.{written}
use Rattle.report.specs.Report.{report, image_refused, image_start, image_run, reported, replayed}

-- THE RUN
module _ (image : List ℕ) (s : Settings) (started : Result Pipeline (Refused Pipeline)) (fresh : Pipeline) (x : Bool) (i : s ≡ as_in_01)
    (e : ◌≡◌ {A = ℕ × Pipeline} (number_in started, record_in started) (pipe_started s (length image) (replicate 15 0) (record { zf = true; sf = false; of = false }) 0))
    (f : fresh ≡ record_in started) (h : x ≡ image_refused (length image)) where
  starts : fresh ≡ image_start
  unfolding pipe_started image_start
  starts = f ∙ ap (λ (y : ℕ × Pipeline). y.1) e ∙ ap (λ (y : Settings). pipe_start y (replicate 15 0) (record { zf = true; sf = false; of = false }) 0) i

  pub too_large : x ≡ true → pipe_answer 1 fresh (lent image) [] [] ≡ image_run image
  unfolding image_run
  too_large t = rw (starts, ← h, t)

  pub runs : (n : ℕ) (p : Pipeline) (image' : List ℕ) → x ≡ false → pipe_answer n p (lent image') [] [] ≡ pipe_run_unlogged fresh (lent image) 4000
      → pipe_answer n p (lent image') [] [] ≡ image_run image
  unfolding image_run
  runs n p image' t f = rw (← h, t) (f ∙ ap (λ (k : Pipeline). pipe_run_unlogged k (lent image) 4000) starts)

pub replays : (image image' out out' : List ℕ) (n r : ℕ) (p : Pipeline) → pipe_answer n p (lent image') [] [] ≡ image_run image
    → ◌≡◌ {A = ℕ × List ℕ} (r, out') (written (report n p) out)
    → ◌≡◌ {A = ℕ × List ℕ × List ℕ} (r, out', image') (replayed image out)
unfolding reported replayed
replays image image' out out' n r p f g =
    subst
    (λ (o : PipeAnswer).
    let t = report o.number o.pipeline in
    ◌≡◌ {A = ℕ × List ℕ × List ℕ} (r, out', image') (length t, t ++ drop (length t) out, o.memory.bytes))
    f
    (ap (λ (x : ℕ × List ℕ). (x.0, x.1, image')) g)

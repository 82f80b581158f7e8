-- One law for each way out of a function. Assumes nothing.
use Prim.Native.Nat.{ℕ, ◌-◌, ◌≤◌}
use native.Mathlib.Omega.{arith}
use mathlib.Core.Bool.{Bool, true, false}
use mathlib.Core.List.{List, [], ◌++◌, append-nil}
use mathlib.Core.Path.{◌≡◌, sym, ap, ◌∙◌}
use lib.ListN.{length, take, drop, length-drop, drop_of_length-le}
use lib.Seq.{take-length}
use borrow.Rule.Slice.PartMut.{mid_of, put_mid, Post-is}
use Rattle.clocked.specs.declared.Pipeline.{Pipeline}
use Rattle.machine.specs.Memory.{lent}
use Rattle.clocked.specs.PipeRuns.{pipe_answer}
use Rattle.peaks.specs.declared.Day.{Day}
use Rattle.peaks.specs.declared.Refusal.{Refusal}
use Rattle.peaks.specs.Types.{refusal_number}
use Rattle.peaks.specs.Day.{judged}
use Rattle.std.specs.Prelude.{Result, Ok, Err}
use Rattle.report_lines.specs.Lines.{number_line}
use Rattle.report.specs.Report.{image_refused, image_run}
use Rattle.text.specs.Put.{written}
use Rattle.dayreport.specs.declared.line.Request.{Request}
use Rattle.std.specs.Prelude.{None as bad_line, Some as asks}
use Rattle.dayreport.specs.Line.{FirstLine, first_line}
use Rattle.dayreport.specs.Lines.{day_lines, answer_lines}
use Rattle.dayreport.specs.Program.{day_answer, request_text, requested, input_text, input_left}
use Rattle.dayreport.specs.Program.{written_for, answered_input}

-- THE ANSWER
module _ (a : Result Day Refusal) (out : List ℕ) {b : List ℕ} {r : ℕ} where
  pub answer_refused : (k : Refusal) (n : ℕ) → a ≡ Err k → n ≡ refusal_number k → ◌≡◌ {A = ℕ × List ℕ} (r, b) (written (number_line "refused" n) out)
      → ◌≡◌ {A = ℕ × List ℕ} (r, b) (written (answer_lines a) out)
  unfolding answer_lines
  answer_refused k n e f x = rw (e, ← f) x

  pub answer_day : (d : Day) → a ≡ Ok d → ◌≡◌ {A = ℕ × List ℕ} (r, b) (written (day_lines d) out)
      → ◌≡◌ {A = ℕ × List ℕ} (r, b) (written (answer_lines a) out)
  unfolding answer_lines
  answer_day d e x = rw e x

-- THE REQUEST
module _ (q : Request) (image out : List ℕ) (i : Bool) (h : i ≡ image_refused (length image)) {b : List ℕ} {r : ℕ} where
  pub request_refused : i ≡ true → ◌≡◌ {A = ℕ × List ℕ} (r, b) (written (number_line "refused" 5) out)
      → ◌≡◌ {A = ℕ × List ℕ × List ℕ} (r, b, image) (requested q image out)
  unfolding requested request_text image_run
  request_refused t e = rw (sym h ∙ t) (ap (λ (x : ℕ × List ℕ). (x.0, x.1, image)) e)

  pub request_done : (n : ℕ) (p : Pipeline) (image' : List ℕ) (a : Result Day Refusal) → i ≡ false → pipe_answer n p (lent image') [] [] ≡ image_run image
      → a ≡ judged (lent image') q.table q.length q.filed
      → ◌≡◌ {A = ℕ × List ℕ} (r, b) (written (answer_lines a) out) → ◌≡◌ {A = ℕ × List ℕ × List ℕ} (r, b, image') (requested q image out)
  unfolding requested request_text day_answer
  request_done n p image' a t m j e = rw (sym h ∙ t, ← m, ← j) (ap (λ (x : ℕ × List ℕ). (x.0, x.1, image')) e)

-- THE INPUT
-- the part of a text from a place on, lent and put back
mid_rest : (a : ℕ) (t : List ℕ) → mid_of a (length t - a) t ≡ drop a t
mid_rest a t = ap (λ (n : ℕ). take n (drop a t)) (sym (length-drop a t)) ∙ take-length (drop a t)

put_rest : (a : ℕ) (t s : List ℕ) → a ≤ length t → put_mid a (length t - a) t s ≡ take a t ++ s
put_rest a t s h =
    ap (λ (z : List ℕ). take a t ++ (s ++ z)) (Post-is a (length t) t h ∙ drop_of_length-le t {i = length t} (omega arith))
    ∙ ap (λ (z : List ℕ). take a t ++ z) (append-nil s)

module _ (t out : List ℕ) (l : FirstLine) (h : l ≡ first_line t) {b : List ℕ} {r : ℕ} where
  pub input_bad : l ≡ bad_line → ◌≡◌ {A = ℕ × List ℕ} (r, b) (written (number_line "refused" 4) out)
      → ◌≡◌ {A = ℕ × List ℕ × List ℕ} (r, b, t) (answered_input t out)
  unfolding answered_input written_for input_text input_left
  input_bad e x = rw (sym h ∙ e) (ap (λ (y : ℕ × List ℕ). (y.0, y.1, t)) x)

  pub input_asks : (q : Request) (image' : List ℕ) → l ≡ asks q → q.image ≤ length t
      → ◌≡◌ {A = ℕ × List ℕ × List ℕ} (r, b, image') (requested q (mid_of q.image (length t - q.image) t) out)
      → ◌≡◌ {A = ℕ × List ℕ × List ℕ} (r, b, put_mid q.image (length t - q.image) t image') (answered_input t out)
  unfolding answered_input written_for input_text input_left requested
  input_asks q image' e i x =
      rw (sym h ∙ e, put_rest q.image t image' i)
      (ap (λ (z : ℕ × List ℕ × List ℕ). (z.0, z.1, take q.image t ++ z.2)) (rw (mid_rest q.image t) at x))

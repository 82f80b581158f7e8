-- From what the entries share to the answer that each of them promises. Assumes nothing.
use mathlib.Core.Path.{◌≡◌, refl, ap, sym, ◌∙◌}
use mathlib.Core.Bool.{Bool, true, false, cond, ◌||◌}
use mathlib.Core.List.{List, [], ◌∷◌}
use Prim.Native.Nat.{ℕ, ◌+◌, ◌≤◌}
use native.Mathlib.Omega.{arith}
use lib.Dec.{eqb, ltb}
use lib.ListN.{length}
use borrow.Author.Tests.{ne_eqb, ltb-false}
use Rattle.clocked.specs.declared.Pipeline.{Pipeline}
use Rattle.answers.specs.Logs.{laid_none}
use Rattle.machine.specs.Memory.{Memory, size}
use Rattle.clocked.specs.Prediction.{core_of}
use Rattle.clocked.specs.Pipeline.{piped_of, clocks}
use Rattle.machine.specs.Runs.{size_refused, budget_refused, log_refused, window_refused}
use Rattle.clocked.specs.PipeRuns.{settings_refused, refused_in_d, refused_in_e, refused_in_m, refused_in_w, refused_kept, counts_refused}
use Rattle.machine.specs.Runs.{lowest}
use Rattle.clocked.specs.PipeRuns.{record_refused, pipe_limit, pipe_refusal, PipeAnswer, pipe_answer, pipe_done, pipe_by, pipe_run, pipe_run_unlogged, pipe_clock}
use Rattle.pipe.specs.Parts.{refusal_by, answer_by}
use Rattle.answers.specs.declared.Refusal.{Refusal}
use Rattle.answers.specs.Numbers.{refusal_number, numbered}
use Rattle.answers.specs.Refusals.{failed}
use Rattle.laws.specs.Tests.{neither}

-- BY THE NUMBER THAT THE CHECK OF THE ARGUMENTS GAVE
module _ (short : Bool) (k : Pipeline) where
  pub refused : (why : Refusal) (m : Memory) (budget : ℕ) (a y : List ℕ) → refusal_number why ≡ refusal_by short k (size m) budget
      → pipe_answer (refusal_number why) k m a y ≡ answer_by short k m budget a y
  unfolding answer_by
  refused why m budget a y e = cc (ne_eqb (refusal_number why) 0 (numbered why))

  pub not_refused : (m : Memory) (budget : ℕ) (a y : List ℕ) → 0 ≡ refusal_by short k (size m) budget → (p : Pipeline) (m' : Memory) (a' y' : List ℕ)
      → pipe_answer 0 p m' a' y' ≡ pipe_done (clocks (core_of k.settings) (piped_of k m) budget) a y
      → pipe_answer 0 p m' a' y' ≡ answer_by short k m budget a y
  unfolding answer_by
  not_refused m budget a y e p m' a' y' d = cc

  -- no refusal: the budget is within the limit, and the record's counts are within its cycles
  pub accepted : (size budget : ℕ) → 0 ≡ refusal_by short k size budget → (k.cycles + budget ≤ pipe_limit) × (counts_refused k ≡ false)
  unfolding refusal_by lowest budget_refused record_refused
  accepted size budget e =
      let size_fits = failed (size_refused size) 0 _ (sym e) in
      let budget_fits = failed (budget_refused pipe_limit k.cycles budget) 2 _ size_fits.1 in
      let logs_fit = failed short 3 _ budget_fits.1 in
      let set = neither (settings_refused k.settings) _ (neither (record_refused k) _ (failed (record_refused k || window_refused k.settings.window size) 4 _ logs_fit.1).0).0 in
      let d = neither (refused_in_d k.d) _ set.1 in
      let m = neither (refused_in_m k.m) _ (neither (refused_in_e k.e) _ d.1).1 in
      let kept = neither (refused_kept k.kept) _ (neither (refused_in_w k.w) _ m.1).1 in
      (omega (arith, ltb-false pipe_limit (k.cycles + budget) (neither (eqb budget 0) _ budget_fits.0).1), kept.1)

-- WITH LOGS AND WITHOUT
by_logs : (logs : List ℕ) (short : Bool) (k : Pipeline) (m : Memory) (budget : ℕ) (a y : List ℕ) → short ≡ log_refused logs budget
    → answer_by short k m budget a y ≡ pipe_by logs k m budget a y
unfolding answer_by refusal_by pipe_by pipe_refusal
by_logs logs short k m budget a y e = rw e

or_none : (s t : Bool) → (s || t) ≡ (s || (t || false))
or_none true t = refl
or_none false true = refl
or_none false false = refl

pub with_logs : (k : Pipeline) (m : Memory) (budget : ℕ) (a y : List ℕ) (t : PipeAnswer)
    → t ≡ answer_by (ltb (length a) budget || ltb (length y) budget) k m budget a y
    → t ≡ pipe_run k m budget a y
unfolding pipe_run log_refused
with_logs k m budget a y t e = e ∙ by_logs (length a ∷ length y ∷ []) _ k m budget a y (or_none (ltb (length a) budget) (ltb (length y) budget))

-- a log with no places has none afterwards
abbrev bare : PipeAnswer → PipeAnswer
bare t = pipe_answer t.number t.pipeline t.memory [] []

pub without_logs : (k : Pipeline) (m : Memory) (budget n : ℕ) (p : Pipeline) (m' : Memory) (a' y' : List ℕ)
    → pipe_answer n p m' a' y' ≡ answer_by false k m budget [] []
    → pipe_answer n p m' [] [] ≡ pipe_run_unlogged k m budget
unfolding pipe_run_unlogged log_refused answer_by pipe_done
without_logs k m budget n p m' a' y' e = ap bare e ∙ (go (eqb (refusal_by false k (size m) budget) 0) ∙ by_logs [] false k m budget [] [] refl)
  where
    go : (b : Bool) → bare (cond b (pipe_done (clocks (core_of k.settings) (piped_of k m) budget) [] []) (pipe_answer (refusal_by false k (size m) budget) k m [] []))
        ≡ cond b (pipe_done (clocks (core_of k.settings) (piped_of k m) budget) [] []) (pipe_answer (refusal_by false k (size m) budget) k m [] [])
    go true = simp laid_none
    go false = refl

pub one_clock : (k : Pipeline) (m : Memory) (t : PipeAnswer) → t ≡ pipe_run_unlogged k m 1 → t ≡ pipe_clock k m
unfolding pipe_clock
one_clock k m t e = e

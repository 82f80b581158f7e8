-- Clock by clock: demand 3 for a caller who makes one clock at a time. Assumes nothing.
use Prim.Native.Nat.{ℕ, zero, suc, ◌≤◌, ◌<◌}
use Rattle.std.specs.Prelude.{◌≡◌, true, false, eqb, length}
use Rattle.std.proofs.Math.Path.{refl, ap, sym, subst}
use Rattle.std.proofs.Common.{◌∙◌, arith}
use Rattle.std.proofs.Math.Bool.{Bool, cond}
use mathlib.Core.List.{List, []}
use Rattle.clocked.specs.declared.Pipeline.{Pipeline}
use Rattle.machine.specs.Memory.{Memory, size}
use Rattle.clocked.specs.Prediction.{core_of}
use Rattle.clocked.specs.Pipeline.{pipe_start, piped_of, clocks}
use Rattle.clocked.specs.PipeRuns.{settings_refused, PipeAnswer, pipe_answer, pipe_refusal, pipe_done, pipe_by, pipe_run_unlogged, pipe_clock}
use Rattle.answers.specs.Logs.{laid_none}
use Rattle.answers.specs.Joined.{ones, ones_join}
use Rattle.pipe.specs.Joined.{unlogged}
use Rattle.account.specs.Statement.{Start, chosen, piped_from}
use Rattle.account.proofs.Timing.{up_to}
use Rattle.account.specs.Contents.{Bytes}
use Rattle.account.proofs.Contents.{settings_known, shorter, each_clock}
use Rattle.account.specs.TwoRuns.{plain_answered, pipe_unlogged, Covered, EndsAgree}
use Rattle.account.proofs.TwoRuns.{unlogged_ran, unlogged_too}

-- the answer of the last of n clocks, each made from where the one before it ended
unfoldable pub clock_by_clock : Pipeline → Memory → ℕ → PipeAnswer
clock_by_clock k m zero = pipe_answer 0 k m [] []
clock_by_clock k m (suc n) = let last = clock_by_clock k m n in pipe_clock last.pipeline last.memory

abbrev pub NoneRefused : Pipeline → Memory → ℕ → Type 0
NoneRefused k m n = (i : ℕ) → i < n → (clock_by_clock k m (suc i)).number ≡ 0

-- an answer without logs
abbrev bare : PipeAnswer → PipeAnswer
bare o = pipe_answer o.number o.pipeline o.memory [] []

module _ (k : Pipeline) (m : Memory) where
  run_bare : (n : ℕ) → pipe_run_unlogged k m n ≡ bare (pipe_run_unlogged k m n)
  unfolding pipe_run_unlogged pipe_by pipe_done
  run_bare n = go (eqb (pipe_refusal k (size m) n []) 0)
    where
      o : Bool → PipeAnswer
      o b = cond b (pipe_done (clocks (core_of k.settings) (piped_of k m) n) [] []) (pipe_answer (pipe_refusal k (size m) n []) k m [] [])

      go : (b : Bool) → o b ≡ bare (o b)
      go true = simp laid_none
      go false = refl

module _ (k : Pipeline) (m : Memory) where
  clocks_bare : (n : ℕ) → clock_by_clock k m n ≡ bare (clock_by_clock k m n)
  unfolding clock_by_clock pipe_clock
  clocks_bare zero = refl
  clocks_bare (suc n) = run_bare (clock_by_clock k m n).pipeline (clock_by_clock k m n).memory 1

  -- "A step or clock is a run of 1 without logs": n clocks, of which none is refused, are a run of n
  pub clocks_are_a_run : (n : ℕ) → NoneRefused k m n → (pipe_run_unlogged k m n).number ≡ 0 → clock_by_clock k m n ≡ pipe_run_unlogged k m n
  unfolding clock_by_clock pipe_clock ones unlogged
  clocks_are_a_run n h r =
      clocks_bare n
      ∙ (ap (λ (i : ℕ). pipe_answer i (clock_by_clock k m n).pipeline (clock_by_clock k m n).memory [] []) (number n h ∙ sym r)
      ∙ (ap (λ (x : Pipeline × Memory). pipe_answer (pipe_run_unlogged k m n).number x.0 x.1 [] []) ends ∙ sym (run_bare k m n)))
    where
      number : (n : ℕ) → NoneRefused k m n → (clock_by_clock k m n).number ≡ 0
      number zero f = refl
      number (suc i) f = f i (omega arith)

      -- the same calls, as runs of 1
      as_ones : (n : ℕ) → ◌≡◌ {A = Pipeline × Memory} ((clock_by_clock k m n).pipeline, (clock_by_clock k m n).memory) (ones unlogged (k, m) n)
      as_ones zero = refl
      as_ones (suc n) = ap (λ (x : Pipeline × Memory). (unlogged.run x 1).1) (as_ones n)

      each : (i : ℕ) → i < n → (unlogged.run (ones unlogged (k, m) i) 1).0 ≡ 0
      each i q = subst (λ (x : Pipeline × Memory). (unlogged.run x 1).0 ≡ 0) (as_ones i) (h i q)

      ends : ◌≡◌ {A = Pipeline × Memory} ((clock_by_clock k m n).pipeline, (clock_by_clock k m n).memory)
          ((pipe_run_unlogged k m n).pipeline, (pipe_run_unlogged k m n).memory)
      ends = as_ones n ∙ ones_join unlogged (k, m) n each r

-- FROM A FRESH START a run of n that is not refused can be made clock by clock: none of them is refused, and the last one's answer is the run's
module _ (t : Start) (b : Bytes t.memory.bytes) (n : ℕ) (r : (pipe_unlogged t n).number ≡ 0) where
  refusal : pipe_refusal (piped_from t).pipeline (size t.memory) n [] ≡ 0
  refusal = (unlogged_ran (piped_from t).pipeline t.memory n r).1

  known : settings_refused t.settings ≡ false
  unfolding piped_from pipe_start
  known = settings_known (piped_from t).pipeline (size t.memory) n [] refusal

  answers : (k : Pipeline) (m : Memory) (i : ℕ) → pipe_refusal k (size m) i [] ≡ 0 → (pipe_run_unlogged k m i).number ≡ 0
  unfolding pipe_run_unlogged pipe_by pipe_done
  answers k m i e = rw e

  -- where i clocks end of which none is refused: the record, and the size of memory
  there : (i : ℕ) → i ≤ n → NoneRefused (piped_from t).pipeline t.memory i
      → let o = clock_by_clock (piped_from t).pipeline t.memory i in
      let p = clocks (chosen t) (piped_from t) i in ◌≡◌ {A = Pipeline × ℕ} (o.pipeline, size o.memory) (p.pipeline, size p.memory)
  unfolding clock_by_clock clocks piped_from pipe_start pipe_done
  there zero h f = refl
  there (suc i) h f =
      let s = answers (piped_from t).pipeline t.memory (suc i) (shorter (chosen t) t b known n refusal i h) in
      ap (λ (o : PipeAnswer). (o.pipeline, size o.memory))
      (clocks_are_a_run (piped_from t).pipeline t.memory (suc i) f s ∙ (unlogged_ran (piped_from t).pipeline t.memory (suc i) s).0)

  up : (i : ℕ) → i ≤ n → NoneRefused (piped_from t).pipeline t.memory i
  unfolding clock_by_clock pipe_clock
  up zero h = λ j q. absurd (omega arith)
  up (suc i) h =
      let f = up i (omega arith) in
      let o = clock_by_clock (piped_from t).pipeline t.memory i in
      let next = subst (λ (x : Pipeline × ℕ). pipe_refusal x.0 x.1 1 [] ≡ 0) (sym (there i (omega arith) f)) (each_clock (chosen t) t b known n refusal i h) in
      up_to {P = λ (j : ℕ). (clock_by_clock (piped_from t).pipeline t.memory (suc j)).number ≡ 0} i f
      (answers o.pipeline o.memory 1 next)

  pub none_refused : NoneRefused (piped_from t).pipeline t.memory n
  none_refused = up n (omega arith)

  pub fresh_clocks : clock_by_clock (piped_from t).pipeline t.memory n ≡ pipe_unlogged t n
  fresh_clocks = clocks_are_a_run (piped_from t).pipeline t.memory n none_refused r

  -- DEMAND 3, clock by clock: as of a run without logs
  pub clocks_agree : (budget : ℕ) (log : List ℕ) → length t.registers ≡ 15 → (plain_answered t budget log).number ≡ 0
      → Covered t n (plain_answered t budget log)
      → EndsAgree t budget n (plain_answered t budget log) (clock_by_clock (piped_from t).pipeline t.memory n)
  clocks_agree budget log l x c =
      subst (EndsAgree t budget n (plain_answered t budget log)) (sym fresh_clocks) (unlogged_too t budget n log [] [] l x r c)

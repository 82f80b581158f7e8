-- Bytes that play no part, as it reads for the answers of the runs: refusals, budgets and lent logs included.
use Prim.Native.Nat.{ℕ}
use Rattle.std.specs.Prelude.{Bool, true, false, cond, ◌≡◌, refl, eqb}
use Rattle.std.proofs.Common.{true≢false, ap, sym}
use mathlib.Core.List.{List, [], ◌∷◌}
use Rattle.std.proofs.Math.ListN.{length}
use Rattle.machine.specs.Types.{no_window}
use Rattle.machine.specs.Types.{is_bad}
use Rattle.machine.specs.Memory.{Memory, size, through}
use Rattle.machine.specs.Plain.{Plain, plain_start, is_stopped, steps}
use Rattle.machine.specs.Runs.{laid, plain_answer, plain_refusal, plain_done, plain_by, plain_run}
use Rattle.clocked.specs.Pipeline.{pipe_start, clocks}
use Rattle.clocked.specs.PipeRuns.{pipe_answer, pipe_refusal, pipe_done, pipe_by, pipe_run, pipe_run_unlogged}
use Rattle.clocked.specs.Premise.{Premise}
use Rattle.account.specs.Statement.{Start, plain_from, piped_from, chosen}
use Rattle.account.specs.TwoRuns.{plain_answered}
use Rattle.junk.specs.Statement.{DifferOnlyAt, AtMost, imaged, SameStep, SameRecord, SameClock, BytesThatPlayNoPart, NoPart, NoPartAsIn01}
use Rattle.junk.proofs.Theorem.{plain_part, no_part_lem, no_part_as_in_01}
use Rattle.junk.specs.Answers.{AnswersPlayNoPart, SameAnswers, SamePipeAnswer, SamePlainAnswer}

-- a run that answers with a stop was not refused
stopped_ran : (t : Start) (budget : ℕ) (log : List ℕ) → is_bad (plain_answered t budget log).machine.status ≡ true → is_stopped (steps (plain_from t) budget) ≡ true
unfolding plain_run plain_by plain_done is_stopped plain_from plain_start is_bad
stopped_ran t budget log h = go (eqb refusal 0) h
  where
    refusal : ℕ
    refusal = plain_refusal t.settings.window (size t.memory) 0 budget (length log ∷ [])

    go : (b : Bool) → is_bad (cond b (plain_done (steps (plain_from t) budget) log) (plain_answer refusal (plain_from t).machine t.memory log)).machine.status ≡ true
        → is_stopped (steps (plain_from t) budget) ≡ true
    go true h = h
    go false h = absurd (true≢false (sym h))

-- what is given back without the window differs no more
given_back : (m m' u u' : Memory) → AtMost m m' u u' → AtMost m m' (through no_window u) (through no_window u')
given_back m m' u u' h = record { rest = ap (through no_window) h.rest; sizes = h.sizes; only = h.only }

-- what is lent differs where the images do
lent_so : {P : ℕ → Type 0} (m m' : Memory) → DifferOnlyAt P m m' → AtMost m m' m m'
lent_so m m' d = record { rest = d.rest; sizes = d.sizes; only = λ x e. e }

module _ (t : Start) (m' : Memory) (rest : AtMost t.memory m' t.memory m') where
  plain_same : (b : ℕ) (log : List ℕ) → SameStep t.memory m' (steps (plain_from t) b) (steps (plain_from (imaged t m')) b)
      → SamePlainAnswer t.memory m' (plain_answered t b log) (plain_answered (imaged t m') b log)
  unfolding plain_run plain_by plain_from plain_done
  plain_same b log h = rw (sym rest.sizes) (go (eqb n 0))
    where
      n : ℕ
      n = plain_refusal (plain_from t).machine.window (size t.memory) (plain_from t).machine.count b (length log ∷ [])

      go : (z : Bool) → SamePlainAnswer t.memory m' (cond z (plain_done (steps (plain_from t) b) log) (plain_answer n (plain_from t).machine t.memory log))
          (cond z (plain_done (steps (plain_from (imaged t m')) b) log) (plain_answer n (plain_from t).machine m' log))
      go true =
          record { number = refl; machine = h.machine; log = ap (λ (z : List ℕ). laid z log) h.log; memory = given_back t.memory m' (steps (plain_from t) b).memory (steps (plain_from (imaged t m')) b).memory h.memory }
      go false = record { number = refl; machine = refl; log = refl; memory = rest }

  module _ (logs : List ℕ) (b : ℕ) (a y : List ℕ)
      (h : SameClock t.memory m' (clocks (chosen t) (piped_from t) b) (clocks (chosen t) (piped_from (imaged t m')) b)) where
    pipe_same : SamePipeAnswer t.memory m' (pipe_by logs (piped_from t).pipeline t.memory b a y) (pipe_by logs (piped_from (imaged t m')).pipeline m' b a y)
    unfolding pipe_by piped_from pipe_start pipe_done
    pipe_same = rw (sym rest.sizes) (go (eqb n 0))
      where
        n : ℕ
        n = pipe_refusal (piped_from t).pipeline (size t.memory) b logs

        go : (z : Bool) → SamePipeAnswer t.memory m' (cond z (pipe_done (clocks (chosen t) (piped_from t) b) a y) (pipe_answer n (piped_from t).pipeline t.memory a y))
            (cond z (pipe_done (clocks (chosen t) (piped_from (imaged t m')) b) a y) (pipe_answer n (piped_from t).pipeline m' a y))
        go true =
            record {
              number = refl;
              pipeline = h.pipeline;
              addresses = ap (λ (z : List ℕ). laid z a) h.addresses;
              cycles = ap (λ (z : List ℕ). laid z y) h.cycles;
              memory = given_back t.memory m' (clocks (chosen t) (piped_from t) b).memory (clocks (chosen t) (piped_from (imaged t m')) b).memory h.memory;
            }
        go false = record { number = refl; pipeline = as_given; addresses = refl; cycles = refl; memory = rest }
          where
            as_given : SameRecord (piped_from t).pipeline (piped_from t).pipeline
            as_given = record { settings = refl; registers = refl; codes = refl; status = refl; last = refl; retired = refl; cycles = refl; kinds = refl; kept = refl; blame = refl }

-- THE PLAIN RUN, whether it stops or not, and without the premise
pub plain_answers : (t : Start) (m' : Memory) → DifferOnlyAt (NoPart (plain_from t)) t.memory m'
    → (b : ℕ) (l : List ℕ) → SamePlainAnswer t.memory m' (plain_answered t b l) (plain_answered (imaged t m') b l)
plain_answers t m' d b l = plain_same t m' (lent_so t.memory m' d) b l (plain_part t m' d b)

-- EACH RUN, where the plain engine stops within so many instructions, whichever reading of a byte's part is taken
module _ (P : Plain → ℕ → Type 0) (th : BytesThatPlayNoPart P) where
  pub runs_same : (t : Start) (m' : Memory) → length t.registers ≡ 15 → DifferOnlyAt (P (plain_from t)) t.memory m'
      → (budget : ℕ) → is_stopped (steps (plain_from t) budget) ≡ true → Premise (plain_from t) budget → SameAnswers t m'
  unfolding pipe_run pipe_run_unlogged
  runs_same t m' l d budget h u =
      let x = th (chosen t) t m' l d budget h u in
      let rest = lent_so t.memory m' d in (
        λ b log. plain_same t m' rest b log (x.0 b),
        λ b a y. pipe_same t m' rest (length a ∷ length y ∷ []) b a y (x.1 b),
        λ b. pipe_same t m' rest [] b [] [] (x.1 b),
      )

  in_answers : AnswersPlayNoPart P
  in_answers t m' l d budget log h u = runs_same t m' l d budget (stopped_ran t budget log h) u

pub answers : AnswersPlayNoPart NoPart
answers = in_answers NoPart no_part_lem

pub answers_as_in_01 : AnswersPlayNoPart NoPartAsIn01
answers_as_in_01 = in_answers NoPartAsIn01 no_part_as_in_01

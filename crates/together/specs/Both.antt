-- Both engines from one start: what `run_both` answers, and demand 3 of the two answers. Assumes nothing.
use Rattle.std.specs.Prelude.{ℕ, cond, ◌≡◌, refl, List, eqb, length}
use Rattle.std.proofs.Common.{sym, subst}
use Rattle.machine.specs.Types.{Window}
use Rattle.machine.specs.declared.Codes.{Codes}
use Rattle.clocked.specs.declared.Settings.{Settings}
use Rattle.machine.specs.Memory.{Memory, size, Registers}
use Rattle.machine.specs.Runs.{start_refusal, plain_started, PlainAnswer, plain_answer, plain_run}
use Rattle.clocked.specs.PipeRuns.{pipe_start_refusal, pipe_started, PipeAnswer, pipe_answer, pipe_run}
use Rattle.answers.specs.Refusals.{ran}
use Rattle.account.specs.Statement.{Start, plain_from, piped_from}
use Rattle.account.specs.TwoRuns.{plain_answered, pipe_answered, Covered, RunsAgree}
use Rattle.account.proofs.TwoRuns.{two_runs}

abbrev pub start_of : Settings → Registers → Codes → ℕ → Memory → Start
start_of s r c a m = record { settings = s; registers = r; codes = c; address = a; memory = m }

-- A FRESH RUN: started, and run where the start is not refused
unfoldable pub plain_fresh : Window → Registers → Codes → ℕ → Memory → ℕ → List ℕ → PlainAnswer
plain_fresh w r c a m budget log =
    let s = plain_started w (size m) r c a in
    cond (eqb s.0 0) (plain_run s.1 m budget log) (plain_answer s.0 s.1 m log)

unfoldable pub pipe_fresh : Settings → Registers → Codes → ℕ → Memory → ℕ → List ℕ → List ℕ → PipeAnswer
pipe_fresh g r c a m budget addresses cycles =
    let s = pipe_started g (size m) r c a in
    cond (eqb s.0 0) (pipe_run s.1 m budget addresses cycles) (pipe_answer s.0 s.1 m addresses cycles)

-- the two answers, each with all that was lent to it
pub record BothAnswer : Type 0 where
  pub plain : PlainAnswer
  pub pipe : PipeAnswer

abbrev pub both_answer : PlainAnswer → PipeAnswer → BothAnswer
both_answer x y = record { plain = x; pipe = y }

-- "Start both alike", and run each: the plain engine in the start's memory, the pipeline in the copy
unfoldable pub both_runs : Start → (copy : Memory) → (budget clocked : ℕ) → (log addresses cycles : List ℕ) → BothAnswer
both_runs t copy budget clocked log addresses cycles =
    both_answer (plain_fresh t.settings.window t.registers t.codes t.address t.memory budget log)
    (pipe_fresh t.settings t.registers t.codes t.address copy clocked addresses cycles)

-- DEMAND 3 OF THE TWO ANSWERS: where the copy is one and neither run is refused, they agree as far as the premise reaches
unfoldable pub AsDemanded : Start → (copy : Memory) → (budget clocked : ℕ) → BothAnswer → Type 0
AsDemanded t copy budget clocked r =
    t.memory ≡ copy → r.plain.number ≡ 0 → r.pipe.number ≡ 0 → Covered t clocked r.plain
    → RunsAgree t budget clocked r.plain r.pipe

-- THE PROMISE of run_both: each answer is its run's, refusals too, and the two agree
pub record RunsBoth (t : Start) (copy : Memory) (budget clocked : ℕ) (log addresses cycles : List ℕ) (r : BothAnswer) : Type 0 where
  pub answers : r ≡ both_runs t copy budget clocked log addresses cycles
  pub agree : AsDemanded t copy budget clocked r

-- what was not refused was run
plain_ran : (t : Start) (budget : ℕ) (log : List ℕ) → (plain_fresh t.settings.window t.registers t.codes t.address t.memory budget log).number ≡ 0
    → plain_fresh t.settings.window t.registers t.codes t.address t.memory budget log ≡ plain_answered t budget log
unfolding plain_fresh plain_started plain_from
plain_ran t budget log h = ran (λ (x : PlainAnswer). x.number) (start_refusal t.settings.window (size t.memory) t.address) _ _ refl h

pipe_ran : (t : Start) (clocked : ℕ) (addresses cycles : List ℕ)
    → (pipe_fresh t.settings t.registers t.codes t.address t.memory clocked addresses cycles).number ≡ 0
    → pipe_fresh t.settings t.registers t.codes t.address t.memory clocked addresses cycles ≡ pipe_answered t clocked addresses cycles
unfolding pipe_fresh pipe_started piped_from
pipe_ran t clocked addresses cycles h = ran (λ (x : PipeAnswer). x.number) (pipe_start_refusal t.settings (size t.memory) t.address) _ _ refl h

-- the second follows from the first
pub both_agree : (t : Start) (copy : Memory) (budget clocked : ℕ) (log addresses cycles : List ℕ) → length t.registers ≡ 15
    → AsDemanded t copy budget clocked (both_runs t copy budget clocked log addresses cycles)
unfolding AsDemanded both_runs
both_agree t copy budget clocked log addresses cycles l same x y c =
    let refused = subst (λ m. (both_runs t m budget clocked log addresses cycles).pipe.number ≡ 0) (sym same) y in
    let p = plain_ran t budget log x in
    let q = pipe_ran t clocked addresses cycles refused in
    subst (λ m. let r = both_runs t m budget clocked log addresses cycles in RunsAgree t budget clocked r.plain r.pipe) same
    (rw (p, q) (two_runs t budget clocked log addresses cycles l (rw p at x) (rw q at refused) (rw p at c)))

-- From what the starts and runs of both engines promise to what `run_both` does. Assumes nothing.
use Prim.Native.Nat.{ℕ}
use mathlib.Core.Path.{◌≡◌, sym, subst}
use mathlib.Core.List.{List}
use borrow.Author.Tests.{ne_eqb}
use Rattle.std.specs.Prelude.{Result}
use Rattle.std.specs.Result.{IsErrAnd}
use Rattle.answers.specs.declared.Refused.{Refused}
use Rattle.answers.specs.Numbers.{refusal_number, numbered, number_in, record_in, handed_on}
use lib.ListN.{length}
use Rattle.machine.specs.Types.{Window}
use Rattle.machine.specs.declared.Codes.{Codes}
use Rattle.machine.specs.declared.Machine.{Machine}
use Rattle.clocked.specs.declared.Settings.{Settings}
use Rattle.clocked.specs.declared.Pipeline.{Pipeline}
use Rattle.machine.specs.Memory.{Memory, size, Registers}
use Rattle.machine.specs.Runs.{plain_started, PlainAnswer, plain_answer, plain_run}
use Rattle.clocked.specs.PipeRuns.{pipe_started, PipeAnswer, pipe_answer, pipe_run}
use Rattle.account.specs.Statement.{Start}
use Rattle.together.specs.Both.{plain_fresh, pipe_fresh, both_answer, both_runs, AsDemanded, RunsBoth, both_agree}

-- FRESH RUNS, by what the start gave
module _ (r : Registers) (c : Codes) (a : ℕ) (m : Memory) (budget : ℕ) where
  module _ (w : Window) (log : List ℕ) where
    pub plain_refused_lem : (o : Result Machine (Refused Machine)) (e : Refused Machine) → IsErrAnd o (λ x. x ≡ e)
        → ◌≡◌ {A = ℕ × Machine} (refusal_number e.why, e.given) (plain_started w (size m) r c a)
        → plain_answer (number_in o) (record_in o) m log ≡ plain_fresh w r c a m budget log
    unfolding plain_fresh
    plain_refused_lem o e h p =
        let s = handed_on o e h in
        rw (← p, ne_eqb (refusal_number e.why) 0 (numbered e.why), s.0, s.1)

    pub plain_runs : (k : Machine) (x : PlainAnswer) → ◌≡◌ {A = ℕ × Machine} (0, k) (plain_started w (size m) r c a) → x ≡ plain_run k m budget log
        → x ≡ plain_fresh w r c a m budget log
    unfolding plain_fresh
    plain_runs k x p h = rw (← p) h

  module _ (s : Settings) (addresses cycles : List ℕ) where
    pub pipe_refused_lem : (o : Result Pipeline (Refused Pipeline)) (e : Refused Pipeline) → IsErrAnd o (λ x. x ≡ e)
        → ◌≡◌ {A = ℕ × Pipeline} (refusal_number e.why, e.given) (pipe_started s (size m) r c a)
        → pipe_answer (number_in o) (record_in o) m addresses cycles ≡ pipe_fresh s r c a m budget addresses cycles
    unfolding pipe_fresh
    pipe_refused_lem o e h p =
        let s = handed_on o e h in
        rw (← p, ne_eqb (refusal_number e.why) 0 (numbered e.why), s.0, s.1)

    pub pipe_runs : (k : Pipeline) (x : PipeAnswer) → ◌≡◌ {A = ℕ × Pipeline} (0, k) (pipe_started s (size m) r c a) → x ≡ pipe_run k m budget addresses cycles
        → x ≡ pipe_fresh s r c a m budget addresses cycles
    unfolding pipe_fresh
    pipe_runs k x p h = rw (← p) h

-- BOTH
pub both_ran : (t : Start) (copy : Memory) (budget clocked : ℕ) (log addresses cycles : List ℕ) → length t.registers ≡ 15
    → (x : PlainAnswer) → x ≡ plain_fresh t.settings.window t.registers t.codes t.address t.memory budget log
    → (y : PipeAnswer) → y ≡ pipe_fresh t.settings t.registers t.codes t.address copy clocked addresses cycles
    → RunsBoth t copy budget clocked log addresses cycles (both_answer x y)
unfolding both_runs
both_ran t copy budget clocked log addresses cycles l x ex y ey =
    let e : both_answer x y ≡ both_runs t copy budget clocked log addresses cycles = cc in
    record { answers = e; agree = subst (AsDemanded t copy budget clocked) (sym e) (both_agree t copy budget clocked log addresses cycles l) }

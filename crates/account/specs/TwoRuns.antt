-- What a caller may compare who holds the answers of two runs from the same fresh start, neither refused.
use Prim.Native.Nat.{ℕ, suc, ◌≤◌, ◌<◌}
use Rattle.std.specs.Prelude.{true, ◌≡◌, get_or}
use Rattle.std.proofs.Math.Bool.{false}
use mathlib.Core.List.{List}
use Rattle.account.specs.Names.{no_window}
use Rattle.machine.specs.Types.{is_bad}
use Rattle.machine.specs.Memory.{through}
use Rattle.machine.specs.Plain.{steps}
use Rattle.clocked.specs.Charges.{kinds_of, due}
use Rattle.account.specs.Seen.{Seen}
use Rattle.machine.specs.Runs.{PlainAnswer, plain_run}
use Rattle.clocked.specs.PipeRuns.{PipeAnswer, pipe_run, pipe_run_unlogged}
use Rattle.account.specs.Statement.{Start, chosen, plain_from, piped_from, DueBy, kept_of}

-- THE TWO ANSWERS
abbrev pub plain_answered : Start → ℕ → List ℕ → PlainAnswer
plain_answered t budget log = plain_run (plain_from t).machine t.memory budget log

abbrev pub pipe_answered : Start → ℕ → List ℕ → List ℕ → PipeAnswer
pipe_answered t clocked addresses cycles = pipe_run (piped_from t).pipeline t.memory clocked addresses cycles

-- that of a run without logs
abbrev pub pipe_unlogged : Start → ℕ → PipeAnswer
pipe_unlogged t clocked = pipe_run_unlogged (piped_from t).pipeline t.memory clocked

-- HOW FAR THE PREMISE REACHES: to instruction k + 1, and no clock is past its due cycle; or, of a plain run that stopped, over the
-- instructions that it performed, and then the pipeline may run on as long as it likes
pub data Covered (t : Start) (clocked : ℕ) (x : PlainAnswer) : Type 0 where
  to_the_clock : (k : ℕ) → Seen (chosen t) (plain_from t) (suc k) → clocked ≤ due (chosen t) (plain_from t) (suc k) → Covered t clocked x
  to_the_stop : is_bad x.machine.status ≡ true → Seen (chosen t) (plain_from t) x.machine.count → Covered t clocked x

-- WHAT MAY BE COMPARED, of any two runs
pub record EndsAgree (t : Start) (budget clocked : ℕ) (x : PlainAnswer) (y : PipeAnswer) : Type 0 where
  -- the plain answer is the plain engine after as many instructions as it counts
  pub plain : (x.machine ≡ (steps (plain_from t) x.machine.count).machine) × (x.memory ≡ through no_window (steps (plain_from t) x.machine.count).memory)
  -- exactly the instructions that are due by the pipeline's last clock have retired
  pub exactly : DueBy (chosen t) (plain_from t) clocked y.pipeline.retired
  pub kinds : y.pipeline.kinds ≡ kinds_of (chosen t) (plain_from t) y.pipeline.retired
  -- registers, status, last address and the reason of a bad fetch are the plain engine's after as many instructions
  pub registers : y.pipeline.registers ≡ (steps (plain_from t) y.pipeline.retired).machine.registers
  pub status : y.pipeline.status ≡ (steps (plain_from t) y.pipeline.retired).machine.status
  pub last : y.pipeline.last ≡ (steps (plain_from t) y.pipeline.retired).machine.last
  pub blame : y.pipeline.blame ≡ (steps (plain_from t) y.pipeline.retired).machine.blame
  -- while it runs so is the instruction last retired, and every clock is counted; at a stop so are memory and codes
  pub running : is_bad y.pipeline.status ≡ false → (y.pipeline.kept ≡ kept_of (plain_from t) y.pipeline.retired) × (y.pipeline.cycles ≡ clocked)
  pub stopped : is_bad y.pipeline.status ≡ true
      → (y.memory ≡ through no_window (steps (plain_from t) y.pipeline.retired).memory) × (y.pipeline.codes ≡ (steps (plain_from t) y.pipeline.retired).machine.codes)
      × (y.pipeline.cycles ≡ due (chosen t) (plain_from t) y.pipeline.retired)
  -- as many have retired as the plain engine performed where either engine stopped and the other's budget reaches as far
  pub plain_stopped : is_bad x.machine.status ≡ true → due (chosen t) (plain_from t) x.machine.count ≤ clocked → x.machine.count ≡ y.pipeline.retired
  pub pipe_stopped : is_bad y.pipeline.status ≡ true → y.pipeline.retired ≤ budget → x.machine.count ≡ y.pipeline.retired

-- and of two runs with logs
pub record RunsAgree (t : Start) (budget clocked : ℕ) (x : PlainAnswer) (y : PipeAnswer) : Type 0 where
  pub ends : EndsAgree t budget clocked x y
  -- line by line, as far as both logs reach: the addresses, and the cycles beside the account
  pub addresses : (i : ℕ) → i < x.machine.count → i < y.pipeline.retired → get_or x.log i 0 ≡ get_or y.addresses i 0
  pub cycles : (i : ℕ) → i < y.pipeline.retired → get_or y.cycles i 0 ≡ due (chosen t) (plain_from t) (suc i)

-- where as many have retired as were performed the two answers agree
pub record Level (x : PlainAnswer) (y : PipeAnswer) : Type 0 where
  pub registers : y.pipeline.registers ≡ x.machine.registers
  pub status : y.pipeline.status ≡ x.machine.status
  pub last : y.pipeline.last ≡ x.machine.last
  pub blame : y.pipeline.blame ≡ x.machine.blame
  pub stopped : is_bad y.pipeline.status ≡ true → (y.memory ≡ x.memory) × (y.pipeline.codes ≡ x.machine.codes)

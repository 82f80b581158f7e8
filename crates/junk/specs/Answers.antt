-- Bytes that play no part, as it is said of the answers of the runs: refusals, budgets and lent logs included.
use Prim.Native.Nat.{ℕ}
use Rattle.std.specs.Prelude.{true, ◌≡◌}
use mathlib.Core.List.{List}
use Rattle.std.proofs.Math.ListN.{length}
use Rattle.machine.specs.Types.{is_bad}
use Rattle.machine.specs.Memory.{Memory}
use Rattle.machine.specs.Plain.{Plain}
use Rattle.machine.specs.Runs.{PlainAnswer}
use Rattle.clocked.specs.PipeRuns.{PipeAnswer}
use Rattle.clocked.specs.Premise.{Premise}
use Rattle.account.specs.Statement.{Start, plain_from}
use Rattle.account.specs.TwoRuns.{plain_answered, pipe_answered, pipe_unlogged}
use Rattle.junk.specs.Statement.{DifferOnlyAt, AtMost, imaged, SameRecord}

-- two answers of the plain run: number, record and lent log are the same
pub record SamePlainAnswer (m m' : Memory) (x x' : PlainAnswer) : Type 0 where
  pub number : x.number ≡ x'.number
  pub machine : x.machine ≡ x'.machine
  pub log : x.log ≡ x'.log
  pub memory : AtMost m m' x.memory x'.memory

-- two answers of the pipelined run: number and both lent logs are the same, and the record as after a clock
pub record SamePipeAnswer (m m' : Memory) (y y' : PipeAnswer) : Type 0 where
  pub number : y.number ≡ y'.number
  pub pipeline : SameRecord y.pipeline y'.pipeline
  pub addresses : y.addresses ≡ y'.addresses
  pub cycles : y.cycles ≡ y'.cycles
  pub memory : AtMost m m' y.memory y'.memory

-- every run, of any budget and with any logs, answers the same
abbrev pub SameAnswers : Start → Memory → Type 0
SameAnswers t m' =
    ((b : ℕ) (l : List ℕ) → SamePlainAnswer t.memory m' (plain_answered t b l) (plain_answered (imaged t m') b l))
    × ((b : ℕ) (a y : List ℕ) → SamePipeAnswer t.memory m' (pipe_answered t b a y) (pipe_answered (imaged t m') b a y))
    × ((b : ℕ) → SamePipeAnswer t.memory m' (pipe_unlogged t b) (pipe_unlogged (imaged t m') b))

-- #112 for the answers: one plain run on the first image stops, within the premise
abbrev pub AnswersPlayNoPart : (Plain → ℕ → Type 0) → Type 0
AnswersPlayNoPart P =
    (t : Start) (m' : Memory) → length t.registers ≡ 15 → DifferOnlyAt (P (plain_from t)) t.memory m'
    → (budget : ℕ) (log : List ℕ) → is_bad (plain_answered t budget log).machine.status ≡ true → Premise (plain_from t) budget → SameAnswers t m'

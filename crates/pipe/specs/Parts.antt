-- The record taken apart: what the code works on for the length of a run, in the words of clocked's Pipeline and PipeRuns.
use Rattle.std.specs.Prelude.{ℕ, Bool, cond, ◌||◌, List, [], ◌∷◌, eqb, set}
use Rattle.clocked.specs.declared.Settings.{Settings}
use Rattle.clocked.specs.declared.Pipeline.{Pipeline}
use Rattle.clocked.specs.Record.{StageW}
use Rattle.clocked.specs.Record.{bubble_w, in_w}
use Rattle.machine.specs.declared.Status.{Status}
use Rattle.machine.specs.declared.Blame.{Blame}
use Rattle.machine.specs.Fetch.{blame_of, no_blame}
use Rattle.machine.specs.Memory.{Memory, size, Registers}
use Rattle.clocked.specs.Prediction.{core_of}
use Rattle.clocked.specs.Pipeline.{piped_of, clocks}
use Rattle.machine.specs.Runs.{size_refused, budget_refused, window_refused, lowest}
use Rattle.clocked.specs.PipeRuns.{record_refused, pipe_limit, PipeAnswer, pipe_answer, pipe_done}
use Rattle.flow.specs.declared.Flow.{Flow}
use Rattle.flow.specs.Moving.{ahead_of}
use Rattle.retiring.specs.declared.Tally.{Tally}

-- THE RECORD
-- what a clock moves, with what is carried of M and W
unfoldable pub flow_of : Pipeline → Flow
flow_of p =
    record {
      predicted = p.predicted;
      d = p.d;
      e = p.e;
      m = p.m;
      w = p.w;
      codes = p.codes;
      ahead = ahead_of (core_of p.settings) p.m p.w;
    }

-- what a clock counts
unfoldable pub tally_of : Pipeline → Tally
tally_of p = record { last = p.last; retired = p.retired; cycles = p.cycles; kinds = p.kinds; kept = p.kept }

-- the record put together again
unfoldable pub whole : Settings → Flow → Tally → Status → Registers → Blame → Pipeline
whole s f t x r z =
    record {
      settings = s;
      predicted = f.predicted;
      d = f.d;
      e = f.e;
      m = f.m;
      w = f.w;
      registers = r;
      codes = f.codes;
      status = x;
      last = t.last;
      retired = t.retired;
      cycles = t.cycles;
      kinds = t.kinds;
      kept = t.kept;
      blame = z;
    }

-- what the instruction in W is blamed on, if it stops the machine
unfoldable pub blame_in : StageW → Memory → Blame
blame_in bubble_w m = no_blame
blame_in (in_w w) m = blame_of m w.instruction

-- THE LOGS
-- where b says that an instruction retired, place k takes x
unfoldable pub noted : Bool → ℕ → ℕ → List ℕ → List ℕ
noted b k x log = cond b (set log k x) log

-- THE ENTRIES
-- the lowest refusal, where short says that a lent log is shorter than the budget
unfoldable pub refusal_by : Bool → Pipeline → (size budget : ℕ) → ℕ
refusal_by short k size budget =
    lowest ((1, size_refused size) ∷ (3, budget_refused pipe_limit k.cycles budget) ∷ (4, short)
    ∷ (5, record_refused k || window_refused k.settings.window size) ∷ [])

-- the answer of every entry
unfoldable pub answer_by : Bool → Pipeline → Memory → ℕ → List ℕ → List ℕ → PipeAnswer
answer_by short k m budget a y =
    let n = refusal_by short k (size m) budget in
    cond (eqb n 0) (pipe_done (clocks (core_of k.settings) (piped_of k m) budget) a y) (pipe_answer n k m a y)

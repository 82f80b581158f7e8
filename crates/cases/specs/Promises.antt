-- The promise of each open operation. "Every open operation's promise fixes its whole answer and all lent bytes and words afterwards,
-- refusals too."
use Rattle.std.specs.Prelude.{ℕ, ◌≡◌, List, Result}
use Rattle.machine.specs.Memory.{Memory, Registers}
use Rattle.clocked.specs.declared.Settings.{Settings}
use Rattle.machine.specs.Runs.{fetch_answer, plain_started, PlainAnswer, plain_step, plain_run}
use Rattle.clocked.specs.PipeRuns.{pipe_started, PipeAnswer, pipe_clock, pipe_run, pipe_run_unlogged}
use Rattle.account.specs.Statement.{Start}
use Rattle.peaks.specs.declared.Day.{Day}
use Rattle.peaks.specs.declared.Refusal.{Refusal}
use Rattle.peaks.specs.Day.{judged}
use Rattle.edge.specs.Edge.{Edge, replayed, replayed_set}
use Rattle.replay_ends.specs.declared.settings.Numbers.{Numbers}
use Rattle.day_edge.specs.Days.{DayAt, day_answer}
use Rattle.encoding.specs.declared.Fields.{Fields}
use Rattle.writing_edge.specs.Writings.{Written, encoded, listing_written}
use Rattle.dayreport.specs.Program.{answered_input}
use Rattle.together.specs.Both.{BothAnswer, both_runs}
use Rattle.cases.specs.Names.{Window, Codes, FetchAnswer, Machine, Pipeline}

-- an open operation: what a caller gives and lends; what it has afterwards, the number, the record and all lent bytes and words; and the
-- definition that its contract equates with that
pub record Operation : Type 1 where
  pub Given : Type 0
  pub Answer : Type 0
  pub promised : Given → Answer

-- an answer that meets the promise for this input
abbrev pub Fits : (o : Operation) → o.Given → o.Answer → Type 0
Fits o x r = r ≡ o.promised x

-- THE PROMISE, of a function that would stand for the operation: for every input its answer fits
abbrev pub Promise : (o : Operation) → (o.Given → o.Answer) → Type 0
Promise o f = (x : o.Given) → Fits o x (f x)

abbrev promising : (G A : Type 0) → (G → A) → Operation
promising G A f = record { Given = G; Answer = A; promised = f }

-- fetching::fetch: the number, and the instruction at an address, or the nop with a bad status that stands for it
abbrev pub fetching : Operation
fetching = promising (Memory × ℕ) FetchAnswer (λ x. fetch_answer x.0 x.1)

-- plain::start: a fresh start with a window, in memory of a size, of registers, codes and address; the number, and the record
abbrev pub plain_start_operation : Operation
plain_start_operation = promising (Window × ℕ × Registers × Codes × ℕ) (ℕ × Machine) (λ x. plain_started x.0 x.1 x.2 x.3 x.4)

-- plain::step: "A step or clock is a run of 1 without logs."
abbrev pub plain_step_operation : Operation
plain_step_operation = promising (Machine × Memory) PlainAnswer (λ x. plain_step x.0 x.1)

-- plain::run: the record, memory, budget and the log of addresses
abbrev pub plain_run_operation : Operation
plain_run_operation = promising (Machine × Memory × ℕ × List ℕ) PlainAnswer (λ x. plain_run x.0 x.1 x.2 x.3)

-- pipe::start: the same. "At a fresh start F holds the start address and the rest are bubbles."
abbrev pub pipe_start_operation : Operation
pipe_start_operation =
    promising (Settings × ℕ × Registers × Codes × ℕ) (ℕ × Pipeline) (λ x. pipe_started x.0 x.1 x.2 x.3 x.4)

-- pipe::clock: one clock
abbrev pub pipe_clock_operation : Operation
pipe_clock_operation = promising (Pipeline × Memory) PipeAnswer (λ x. pipe_clock x.0 x.1)

-- pipe::run: the record, memory, budget and the logs of addresses and of cycles
abbrev pub pipe_run_operation : Operation
pipe_run_operation = promising (Pipeline × Memory × ℕ × List ℕ × List ℕ) PipeAnswer (λ x. pipe_run x.0 x.1 x.2 x.3 x.4)

-- pipe::run_unlogged: a run without logs
abbrev pub pipe_run_unlogged_operation : Operation
pipe_run_unlogged_operation = promising (Pipeline × Memory × ℕ) PipeAnswer (λ x. pipe_run_unlogged x.0 x.1 x.2)

-- edge::y86_replay: memory, registers and result as lent, start address, codes and budget
abbrev pub host_edge : Operation
host_edge =
    promising (List ℕ × List ℕ × List ℕ × ℕ × ℕ × ℕ) Edge (λ x. replayed x.0 x.1 x.2 x.3 x.4 x.5)

-- edge::replay_set: the same with the settings by their numbers
abbrev pub replay_set : Operation
replay_set =
    promising (Numbers × List ℕ × List ℕ × List ℕ × ℕ × ℕ × ℕ) Edge (λ x. replayed_set x.0 x.1 x.2 x.3 x.4 x.5 x.6)

-- together::run_both: the start, the copy of memory for the pipeline, both budgets, the plain engine's log and the pipeline's two
abbrev pub run_both : Operation
run_both =
    promising (Start × Memory × ℕ × ℕ × List ℕ × List ℕ × List ℕ) BothAnswer (λ x. both_runs x.0 x.1 x.2 x.3 x.4 x.5 x.6)

-- peaks::judge: a final memory, the address and the length of a day's table, and the address of the filed peak
abbrev pub day_judged : Operation
day_judged = promising (Memory × ℕ × ℕ × ℕ) (Result Day Refusal) (λ x. judged x.0 x.1 x.2 x.3)

-- edge::y86_peaks: the same with the result block as lent
abbrev pub day_exported : Operation
day_exported = promising (List ℕ × List ℕ × ℕ × ℕ × ℕ) DayAt (λ x. day_answer x.0 x.1 x.2 x.3 x.4)

-- edge::y86_encode: the bytes and their length as lent, and the instruction's fields
abbrev pub instruction_encoded : Operation
instruction_encoded = promising (List ℕ × List ℕ × Fields) Written (λ x. encoded x.0 x.1 x.2)

-- edge::y86_write_listing: memory, and the text and its length as lent; start and end
abbrev pub listing_written_lem : Operation
listing_written_lem = promising (List ℕ × List ℕ × List ℕ × ℕ × ℕ) Written (λ x. listing_written x.0 x.1 x.2 x.3 x.4)

-- dayreport::report_input: the bytes read and the buffer; how many bytes are written, the buffer, and what is left of the bytes read
abbrev pub input_reported : Operation
input_reported = promising (List ℕ × List ℕ) (ℕ × List ℕ × List ℕ) (λ x. answered_input x.0 x.1)

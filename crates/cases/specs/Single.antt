-- One answer only: "Two answers that both fit are proved equal".
use Rattle.std.specs.Prelude.{ℕ, ◌≡◌, refl, List}
use Rattle.std.proofs.Common.{sym, ◌∙◌, ap}
use Rattle.machine.specs.Memory.{Memory}
use Rattle.machine.specs.Runs.{plain_answer}
use Rattle.clocked.specs.PipeRuns.{pipe_answer}
use Rattle.edge.specs.Edge.{edge}
use Rattle.cases.specs.Names.{Machine, Pipeline}
use Rattle.cases.specs.Promises.{Operation, Fits, Promise, fetching, plain_start_operation, plain_step_operation, plain_run_operation, pipe_start_operation, pipe_clock_operation, pipe_run_operation}
use Rattle.cases.specs.Promises.{pipe_run_unlogged_operation, host_edge, replay_set, run_both, day_judged, day_exported, instruction_encoded, listing_written_lem, input_reported}

-- two answers that both meet the promise for the same input are equal: number, record, all lent bytes and words
abbrev pub OneAnswer : Operation → Type 0
OneAnswer o = (x : o.Given) (r s : o.Answer) → Fits o x r → Fits o x s → r ≡ s

one_answer : (o : Operation) → OneAnswer o
one_answer o x r s a b = a ∙ sym b

-- and there is one: each promise can be met
pub met : (o : Operation) → Promise o o.promised
met o x = refl

pub one_fetching : OneAnswer fetching
one_fetching = one_answer fetching

pub one_plain_start : OneAnswer plain_start_operation
one_plain_start = one_answer plain_start_operation

pub one_plain_step : OneAnswer plain_step_operation
one_plain_step = one_answer plain_step_operation

pub one_plain_run : OneAnswer plain_run_operation
one_plain_run = one_answer plain_run_operation

pub one_pipe_start : OneAnswer pipe_start_operation
one_pipe_start = one_answer pipe_start_operation

pub one_pipe_clock : OneAnswer pipe_clock_operation
one_pipe_clock = one_answer pipe_clock_operation

pub one_pipe_run : OneAnswer pipe_run_operation
one_pipe_run = one_answer pipe_run_operation

pub one_pipe_run_unlogged : OneAnswer pipe_run_unlogged_operation
one_pipe_run_unlogged = one_answer pipe_run_unlogged_operation

pub one_host_edge : OneAnswer host_edge
one_host_edge = one_answer host_edge

pub one_replay_set : OneAnswer replay_set
one_replay_set = one_answer replay_set

pub one_run_both : OneAnswer run_both
one_run_both = one_answer run_both

pub one_day_judged : OneAnswer day_judged
one_day_judged = one_answer day_judged

pub one_day_exported : OneAnswer day_exported
one_day_exported = one_answer day_exported

pub one_instruction_encoded : OneAnswer instruction_encoded
one_instruction_encoded = one_answer instruction_encoded

pub one_listing_written : OneAnswer listing_written_lem
one_listing_written = one_answer listing_written_lem

pub one_input_reported : OneAnswer input_reported
one_input_reported = one_answer input_reported

-- what equal answers have in common, part by part
pub same_plain : {n i : ℕ} {k j : Machine} {m u : Memory} {l v : List ℕ} → plain_answer n k m l ≡ plain_answer i j u v → (n ≡ i) × (k ≡ j) × (m ≡ u) × (l ≡ v)
same_plain e = (ap (λ r. r.number) e, ap (λ r. r.machine) e, ap (λ r. r.memory) e, ap (λ r. r.log) e)

pub same_pipe : {n i : ℕ} {k j : Pipeline} {m u : Memory} {a v y w : List ℕ}
    → pipe_answer n k m a y ≡ pipe_answer i j u v w → (n ≡ i) × (k ≡ j) × (m ≡ u) × (a ≡ v) × (y ≡ w)
same_pipe e = (ap (λ r. r.number) e, ap (λ r. r.pipeline) e, ap (λ r. r.memory) e, ap (λ r. r.addresses) e, ap (λ r. r.cycles) e)

pub same_edge : {n i : ℕ} {m u r v b w : List ℕ} → edge n m r b ≡ edge i u v w → (n ≡ i) × (m ≡ u) × (r ≡ v) × (b ≡ w)
same_edge e = (ap (λ x. x.answer) e, ap (λ x. x.memory) e, ap (λ x. x.registers) e, ap (λ x. x.result) e)

-- The pipelined run: what each of the entries gives back, refusals included.
use Rattle.std.specs.Prelude.{ℕ, Bool, false, cond, ◌&&◌, ◌||◌, List, [], ◌∷◌, ltb, leb, eqb, length}
use Rattle.machine.specs.Memory.{Memory, size, through, Registers}
use Rattle.machine.specs.Table.{row_of, is, cmov, operation, jump}
use Rattle.machine.specs.Runs.{laid, size_refused, budget_refused, log_refused, start_refused, window_refused, lowest}
use Rattle.clocked.specs.Record.{Settings, no_window, Pipeline, Instruction, Option, StageD, bubble_d, in_d, StageE, StageM, StageW, Codes, Kept}
use Rattle.clocked.specs.Prediction.{core_of}
use Rattle.clocked.specs.Pipeline.{Piped, piped_of, pipe_start, clocks}

-- 5: "register number over 15, code without functions in the table, move or jump function over 6, OPq function over 3"
unfoldable pub instruction_refused : Instruction → Bool
instruction_refused i =
    ltb 15 i.ra || (ltb 15 i.rb
    || (eqb (row_of i.code).functions 0
    || ((is cmov i || (is jump i || is operation i)) && leb (row_of i.code).functions i.function)))

-- what carries an instruction, where there is one
unfoldable pub refused_in : {A : Type 0} → (A → Instruction) → Option A → Bool
refused_in f bubble_d = false
refused_in f (in_d x) = instruction_refused (f x)

unfoldable pub refused_in_d : StageD → Bool
unfolding refused_in
refused_in_d d = refused_in (λ i. i) d

unfoldable pub refused_in_e : StageE → Bool
unfolding refused_in
refused_in_e e = refused_in (λ x. x.instruction) e

unfoldable pub refused_in_m : StageM → Bool
unfolding refused_in
refused_in_m m = refused_in (λ x. x.instruction) m

unfoldable pub refused_in_w : StageW → Bool
unfolding refused_in
refused_in_w w = refused_in (λ x. x.instruction) w

unfoldable pub refused_kept : Kept → Bool
unfolding refused_in
refused_kept k = refused_in (λ x. x.instruction) k

-- 5: "retired or a kind's count above cycles"
unfoldable pub counts_refused : Pipeline → Bool
counts_refused k =
    ltb k.cycles k.retired || (ltb k.cycles k.kinds.loaduse
    || (ltb k.cycles k.kinds.mispredict || (ltb k.cycles k.kinds.returned || ltb k.cycles k.kinds.patched)))

-- 5: "A rule number other than these three" (02, #105)
unfoldable pub settings_refused : Settings → Bool
settings_refused s = ltb 2 s.rule

unfoldable pub record_refused : Pipeline → Bool
record_refused k =
    settings_refused k.settings
    || (refused_in_d k.d || (refused_in_e k.e || (refused_in_m k.m || (refused_in_w k.w || (refused_kept k.kept || counts_refused k)))))

-- A FRESH START, refused as the plain engine's is, and for its settings
unfoldable pub pipe_start_refusal : Settings → (size address : ℕ) → ℕ
pipe_start_refusal s size a =
    lowest ((1, size_refused size) ∷ (5, settings_refused s || window_refused s.window size) ∷ (6, start_refused size a) ∷ [])

unfoldable pub pipe_started : Settings → ℕ → Registers → Codes → ℕ → ℕ × Pipeline
pipe_started s size r c a = (pipe_start_refusal s size a, pipe_start s r c a)

-- THE PIPELINED RUN
-- "For the pipeline the limit is 262,145"
abbrev pub pipe_limit : ℕ
pipe_limit = 262145

unfoldable pub pipe_refusal : Pipeline → (size budget : ℕ) → List ℕ → ℕ
pipe_refusal k size budget logs =
    lowest
    ((1, size_refused size) ∷ (3, budget_refused pipe_limit k.cycles budget) ∷ (4, log_refused logs budget)
    ∷ (5, record_refused k || window_refused k.settings.window size) ∷ [])

pub record PipeAnswer : Type 0 where
  pub number : ℕ
  pub pipeline : Pipeline
  pub memory : Memory
  pub addresses : List ℕ
  pub cycles : List ℕ

abbrev pub pipe_answer : ℕ → Pipeline → Memory → List ℕ → List ℕ → PipeAnswer
pipe_answer n k m a y = record { number = n; pipeline = k; memory = m; addresses = a; cycles = y }

-- memory is given back as it was lent, without a window
unfoldable pub pipe_done : Piped → List ℕ → List ℕ → PipeAnswer
pipe_done p a y = pipe_answer 0 p.pipeline (through no_window p.memory) (laid p.address_log a) (laid p.cycle_log y)

-- the clocks are those of the core that the record's own settings choose
unfoldable pub pipe_by : List ℕ → Pipeline → Memory → ℕ → List ℕ → List ℕ → PipeAnswer
pipe_by logs k m budget a y =
    let n = pipe_refusal k (size m) budget logs in
    cond (eqb n 0) (pipe_done (clocks (core_of k.settings) (piped_of k m) budget) a y) (pipe_answer n k m a y)

unfoldable pub pipe_run : Pipeline → Memory → ℕ → List ℕ → List ℕ → PipeAnswer
pipe_run k m budget a y = pipe_by (length a ∷ length y ∷ []) k m budget a y

-- a run without logs, and a clock, which is one of 1
unfoldable pub pipe_run_unlogged : Pipeline → Memory → ℕ → PipeAnswer
pipe_run_unlogged k m budget = pipe_by [] k m budget [] []

unfoldable pub pipe_clock : Pipeline → Memory → PipeAnswer
pipe_clock k m = pipe_run_unlogged k m 1

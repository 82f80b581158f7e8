-- The wrong replays: "These replays have to fall foul of a promise, each shown". A replay that takes another one, f, has from it all that its
-- own fault leaves open, and what is shown is shown for every f.
use Rattle.std.specs.Prelude.{ℕ, zero, suc, ◌+◌, ◌<◌, Bool, true, false, cond, not, ◌&&◌, ◌≡◌, refl, List, [], ◌∷◌, ◌++◌, eqb, get_or, set, replicate, take}
use Rattle.std.proofs.Common.{true≢false, ap, sym, ◌∙◌, arith, eqb-true}
use Rattle.std.proofs.lemmas.Bool.{eqb-false}
use Rattle.machine.specs.Types.{status_number, codes_number, is_bad}
use Rattle.machine.specs.Words.{number}
use Rattle.machine.specs.Memory.{Memory, lent, Registers}
use Rattle.machine.specs.Table.{unknown_byte}
use Rattle.machine.specs.Plain.{Plain, plain_of, plain_start, is_stopped, step}
use Rattle.clocked.specs.Prediction.{core01, as_in_01}
use Rattle.clocked.specs.Charges.{due}
use Rattle.clocked.specs.Pipeline.{Piped, pipe_start}
use Rattle.machine.specs.Runs.{PlainAnswer, plain_answer, plain_limit, plain_run, laid}
use Rattle.clocked.specs.PipeRuns.{PipeAnswer, pipe_answer, pipe_by}
use Rattle.account.proofs.Sight.{both}
use Rattle.account.specs.Statement.{Start, plain_from, kept_of, Agrees}
use Rattle.cases.specs.Names.{Status, Codes, Machine, Pipeline, hlt}
use Rattle.cases.specs.Computing.{computing}
use Rattle.cases.specs.Promises.{Operation, Fits, Promise, plain_step_operation, plain_run_operation, pipe_clock_operation, pipe_run_operation, pipe_run_unlogged_operation}

-- THE SCHEME: a replay, an input, and a number of its answer there that is not the promised one
abbrev pub FallsFoul : (o : Operation) → (o.Given → o.Answer) → o.Given → Type 0
FallsFoul o f x = Fits o x (f x) → ⊥

-- a replay that falls foul of a promise at some input does not meet it
pub not_met : (o : Operation) (f : o.Given → o.Answer) (x : o.Given) → FallsFoul o f x → Promise o f → ⊥
not_met o f x h p = h (p x)

-- the number that the wrong answer has, and the one that it ought to have
pub differs : {A : Type 0} {wrong right : A} (look : A → ℕ) (has ought : ℕ)
    → eqb (look wrong) has && (eqb (look right) ought && not (eqb has ought)) ≡ true → wrong ≡ right → ⊥
differs {wrong = w} {right = r} look has ought t e =
    let x = both (eqb (look w) has) (eqb (look r) ought && not (eqb has ought)) t in
    let y = both (eqb (look r) ought) (not (eqb has ought)) x.1 in
    let p = eqb-true (look w) has x.0 in
    let q = eqb-true (look r) ought y.0 in
    eqb-false has ought (not_true (eqb has ought) y.1) (sym p ∙ (ap look e ∙ q))
  where
    not_true : (b : Bool) → not b ≡ true → b ≡ false
    not_true true h = sym h
    not_true false h = refl

-- a replay of either engine stands for its run, and so for its other entries: "A step or clock is a run of 1 without logs."
abbrev pub PlainReplay : Type 0
PlainReplay = Machine → Memory → ℕ → List ℕ → PlainAnswer

abbrev pub PipeReplay : Type 0
PipeReplay = Pipeline → Memory → ℕ → List ℕ → List ℕ → PipeAnswer

abbrev as_plain_run : PlainReplay → Machine × Memory × ℕ × List ℕ → PlainAnswer
as_plain_run f x = f x.0 x.1 x.2 x.3

abbrev as_plain_step : PlainReplay → Machine × Memory → PlainAnswer
as_plain_step f x = f x.0 x.1 1 []

abbrev as_pipe_run : PipeReplay → Pipeline × Memory × ℕ × List ℕ × List ℕ → PipeAnswer
as_pipe_run f x = f x.0 x.1 x.2 x.3 x.4

abbrev as_pipe_clock : PipeReplay → Pipeline × Memory → PipeAnswer
as_pipe_clock f x = f x.0 x.1 1 [] []

abbrev as_pipe_unlogged : PipeReplay → Pipeline × Memory × ℕ → PipeAnswer
as_pipe_unlogged f x = f x.0 x.1 x.2 [] []

-- either engine's record at a fresh start, and a log that is long enough
abbrev plain_at : Start → Machine
plain_at t = plain_start t.settings.window t.registers t.codes t.address

abbrev pipe_at : Start → Pipeline
pipe_at t = pipe_start t.settings t.registers t.codes t.address

abbrev log : List ℕ
log = replicate 100 0

-- from this start and with this budget it falls foul of the promise of every entry: run and step; run, clock and unlogged run
unfoldable pub PlainFoul : PlainReplay → Start → ℕ → Type 0
unfolding computing
PlainFoul f t budget =
    FallsFoul plain_run_operation (as_plain_run f) (plain_at t, t.memory, budget, log)
    × FallsFoul plain_step_operation (as_plain_step f) (plain_at t, t.memory)

unfoldable pub PipeFoul : PipeReplay → Start → ℕ → Type 0
unfolding computing
PipeFoul f t budget =
    FallsFoul pipe_run_operation (as_pipe_run f) (pipe_at t, t.memory, budget, log, log)
    × FallsFoul pipe_clock_operation (as_pipe_clock f) (pipe_at t, t.memory)
    × FallsFoul pipe_run_unlogged_operation (as_pipe_unlogged f) (pipe_at t, t.memory, budget)

-- THE INPUTS: an image, from a fresh start at 0 with ZF=1, and rsp as given, other registers 0
abbrev from : List ℕ → ℕ → Start
from image rsp =
    record { settings = as_in_01; registers = set (replicate 15 0) 4 rsp; codes = record { zf = true; sf = false; of = false }; address = 0; memory = lent image }

-- P1: halt
abbrev pub halt : Start
halt = from (0x00 ∷ []) 0

-- a code without functions: INS
abbrev pub unknown : Start
unknown = from (unknown_byte ∷ []) 0

-- nop, halt
abbrev pub nop : Start
nop = from (0x10 ∷ 0x00 ∷ []) 0

-- jne not taken, halt: the halt is charged 2
abbrev pub turn : Start
turn = from (0x74 ∷ replicate 9 0) 0

-- P10: pushq rsp, which stores 16 at 8, halt
abbrev pub push : Start
push = from (0xa0 ∷ 0x4f ∷ replicate 14 0) 16

-- addq rsp, rsp, which clears ZF, halt
abbrev pub add : Start
add = from (0x60 ∷ 0x44 ∷ 0x00 ∷ []) 16

-- THE NUMBERS LOOKED AT
abbrev pub refused : ℕ → ℕ
refused zero = 0
refused (suc n) = 1

abbrev plain_refused : PlainAnswer → ℕ
plain_refused r = refused r.number

abbrev plain_status : PlainAnswer → ℕ
plain_status r = status_number r.machine.status

abbrev plain_count : PlainAnswer → ℕ
plain_count r = r.machine.count

abbrev pipe_refused : PipeAnswer → ℕ
pipe_refused r = refused r.number

abbrev pipe_status : PipeAnswer → ℕ
pipe_status r = status_number r.pipeline.status

abbrev pipe_cycles : PipeAnswer → ℕ
pipe_cycles r = r.pipeline.cycles

abbrev pipe_codes : PipeAnswer → ℕ
pipe_codes r = codes_number r.pipeline.codes

-- the word at 8
abbrev pipe_word : PipeAnswer → ℕ
pipe_word r = number 8 r.memory.bytes 8

-- ONE THAT REFUSES ALL, by whatever number
abbrev pub plain_refuses : ℕ → PlainReplay
plain_refuses n k m budget l = plain_answer (suc n) k m l

abbrev pub pipe_refuses : ℕ → PipeReplay
pipe_refuses n k m budget a y = pipe_answer (suc n) k m a y

pub plain_refuses_lem : (n : ℕ) → PlainFoul (plain_refuses n) halt 5
unfolding PlainFoul
plain_refuses_lem n = (differs plain_refused 1 0 refl, differs plain_refused 1 0 refl)

pub pipe_refuses_lem : (n : ℕ) → PipeFoul (pipe_refuses n) halt 5
unfolding PipeFoul
pipe_refuses_lem n = (differs pipe_refused 1 0 refl, differs pipe_refused 1 0 refl, differs pipe_refused 1 0 refl)

-- ONE THAT LEAVES ALL AS IT WAS
abbrev pub plain_idles : PlainReplay
plain_idles k m budget l = plain_answer 0 k m l

abbrev pub pipe_idles : PipeReplay
pipe_idles k m budget a y = pipe_answer 0 k m a y

pub plain_idles_lem : PlainFoul plain_idles halt 5
unfolding PlainFoul
plain_idles_lem = (differs plain_count 0 1 refl, differs plain_count 0 1 refl)

pub pipe_idles_lem : PipeFoul pipe_idles halt 5
unfolding PipeFoul
pipe_idles_lem = (differs pipe_cycles 0 5 refl, differs pipe_cycles 0 1 refl, differs pipe_cycles 0 5 refl)

-- ONE THAT ALWAYS ANSWERS HLT
-- a record with another status and count; with other registers, codes, status and count of cycles
abbrev counting : Machine → Status → ℕ → Machine
counting k s n = record { registers = k.registers; codes = k.codes; address = k.address; status = s; last = k.last; count = n; blame = k.blame; window = k.window }

abbrev changed : Pipeline → Registers → Codes → Status → ℕ → Pipeline
changed k r c s y =
    record {
      settings = k.settings;
      predicted = k.predicted;
      d = k.d;
      e = k.e;
      m = k.m;
      w = k.w;
      registers = r;
      codes = c;
      status = s;
      last = k.last;
      retired = k.retired;
      cycles = y;
      kinds = k.kinds;
      kept = k.kept;
      blame = k.blame;
    }

abbrev pub plain_halts : PlainReplay → PlainReplay
plain_halts f k m budget l =
    let r = f k m budget l in
    plain_answer r.number (counting r.machine hlt r.machine.count) r.memory r.log

abbrev pub pipe_halts : PipeReplay → PipeReplay
pipe_halts f k m budget a y =
    let r = f k m budget a y in
    let q = r.pipeline in
    pipe_answer r.number (changed q q.registers q.codes hlt q.cycles) r.memory r.addresses r.cycles

pub plain_halts_lem : (f : PlainReplay) → PlainFoul (plain_halts f) unknown 5
unfolding PlainFoul
plain_halts_lem f = (differs plain_status 2 4 refl, differs plain_status 2 4 refl)

pub pipe_halts_lem : (f : PipeReplay) → PipeFoul (pipe_halts f) unknown 5
unfolding PipeFoul
pipe_halts_lem f = (differs pipe_status 2 4 refl, differs pipe_status 2 1 refl, differs pipe_status 2 4 refl)

-- ONE THAT RUNS THE PLAIN ENGINE WHOLE IN THE FIRST CLOCK AND THEN ONLY COUNTS
abbrev whole : ℕ → Plain → Plain
whole zero s = s
whole (suc n) s = cond (is_stopped s) s (whole n (step s))

-- of the plain engine: whole in the first step
abbrev pub plain_whole : PlainReplay
plain_whole k m budget l =
    let s = whole plain_limit (plain_of k m) in
    plain_answer 0 s.machine s.memory (laid s.log l)

-- the plain engine's end in the first clock, and later what is there
abbrev at_once : Pipeline → Memory → Plain
at_once k m =
    let s = plain_of (record { registers = k.registers; codes = k.codes; address = k.predicted; status = k.status; last = k.last; count = k.retired; blame = k.blame; window = k.settings.window }) m in
    cond (eqb k.cycles 0) (whole plain_limit s) s

-- memory alone is the plain engine's at its end; the codes alone are
abbrev pub pipe_stores_at_once : PipeReplay → PipeReplay
pipe_stores_at_once f k m budget a y =
    let r = f k m budget a y in
    pipe_answer r.number r.pipeline (at_once k m).memory r.addresses r.cycles

abbrev pub pipe_sets_at_once : PipeReplay → PipeReplay
pipe_sets_at_once f k m budget a y =
    let r = f k m budget a y in
    let q = r.pipeline in
    pipe_answer r.number (changed q q.registers (at_once k m).machine.codes q.status q.cycles) r.memory r.addresses r.cycles

-- registers and status are
abbrev rest_at_once : PipeReplay → PipeReplay
rest_at_once f k m budget a y =
    let r = f k m budget a y in
    let q = r.pipeline in
    let s = (at_once k m).machine in
    pipe_answer r.number (changed q s.registers q.codes s.status q.cycles) r.memory r.addresses r.cycles

-- all four, and f counts
abbrev pub pipe_whole : PipeReplay → PipeReplay
pipe_whole f = pipe_stores_at_once (pipe_sets_at_once (rest_at_once f))

pub plain_whole_lem : PlainFoul plain_whole nop 1
unfolding PlainFoul
plain_whole_lem = (differs plain_status 2 1 refl, differs plain_status 2 1 refl)

pub pipe_stores_at_once_lem : (f : PipeReplay) → PipeFoul (pipe_stores_at_once f) push 3
unfolding PipeFoul
pipe_stores_at_once_lem f = (differs pipe_word 16 0 refl, differs pipe_word 16 0 refl, differs pipe_word 16 0 refl)

pub pipe_sets_at_once_lem : (f : PipeReplay) → PipeFoul (pipe_sets_at_once f) add 2
unfolding PipeFoul
pipe_sets_at_once_lem f = (differs pipe_codes 0 4 refl, differs pipe_codes 0 4 refl, differs pipe_codes 0 4 refl)

pub pipe_whole_lem : (f : PipeReplay) → PipeFoul (pipe_whole f) push 3
pipe_whole_lem f = pipe_stores_at_once_lem (pipe_sets_at_once (rest_at_once f))

-- ONE THAT MAKES UP CYCLES
-- the right replay, with whatever logs
abbrev right : PipeReplay
right = pipe_by []

-- by a rule of its own the k-th instruction retires in cycle rule k, and that many are counted
abbrev made : (ℕ → ℕ) → ℕ → List ℕ
made rule zero = []
made rule (suc n) = made rule n ++ rule (suc n) ∷ []

abbrev pub pipe_makes_up : (ℕ → ℕ) → PipeReplay
pipe_makes_up rule k m budget a y =
    let r = right k m budget a y in
    let q = r.pipeline in
    pipe_answer r.number (changed q q.registers q.codes q.status (rule q.retired)) r.memory r.addresses (laid (made rule q.retired) y)

-- the charges forgotten: the second place of the log, and the count
pub pipe_makes_up_lem : PipeFoul (pipe_makes_up (λ k. k + 4)) turn 8
unfolding PipeFoul
pipe_makes_up_lem = (differs (λ r. get_or r.cycles 1 0) 6 8 refl, differs pipe_cycles 4 1 refl, differs pipe_cycles 6 8 refl)

-- nor does any other rule of k alone fit: nop, halt and jne, halt retire 2 each, in 6 cycles and in 8
pub no_rule : (rule : ℕ → ℕ) → Promise pipe_run_unlogged_operation (as_pipe_unlogged (pipe_makes_up rule)) → ⊥
unfolding PipeFoul
no_rule rule p =
    let a : rule 2 ≡ 6 = ap pipe_cycles (p (pipe_at nop, nop.memory, 6)) in
    let b : rule 2 ≡ 8 = ap pipe_cycles (p (pipe_at turn, turn.memory, 8)) in
    omega arith

-- the plain engine counts instructions: made up from the budget, by whatever rule, they fit halt or nop, halt but not both
abbrev pub plain_makes_up : (ℕ → ℕ) → PlainReplay
plain_makes_up rule k m budget l =
    let r = plain_run k m budget l in
    plain_answer r.number (counting r.machine r.machine.status (rule budget)) r.memory r.log

pub no_plain_rule : (rule : ℕ → ℕ) → Promise plain_run_operation (as_plain_run (plain_makes_up rule)) → ⊥
unfolding PlainFoul
no_plain_rule rule p =
    let a : rule 5 ≡ 1 = ap plain_count (p (plain_at halt, halt.memory, 5, log)) in
    let b : rule 5 ≡ 2 = ap plain_count (p (plain_at nop, nop.memory, 5, log)) in
    omega arith

-- DEMAND 3 rules out all five
-- the state after c clocks by a replay: the record, memory, and the places of the logs that were taken
abbrev after : PipeReplay → Start → ℕ → Piped
after f t c =
    let r = f (pipe_at t) t.memory c log log in
    record { pipeline = r.pipeline; memory = r.memory; address_log = take r.pipeline.retired r.addresses; cycle_log = take r.pipeline.retired r.cycles }

-- it does not agree with the plain history, however many instructions are said to have retired
abbrev pub Disagrees : PipeReplay → Start → ℕ → Type 0
Disagrees f t c = (n : ℕ) → Agrees core01 (plain_from t) (after f t c) c n → ⊥

-- the cycles that must have been counted
agreed : (s : Plain) (p : Piped) (c n : ℕ) → Agrees core01 s p c n
    → p.pipeline.cycles ≡ cond (is_bad p.pipeline.status) (due core01 s p.pipeline.retired) c
agreed s p c n a = by (is_bad p.pipeline.status) refl
  where
    by : (b : Bool) → is_bad p.pipeline.status ≡ b → p.pipeline.cycles ≡ cond b (due core01 s p.pipeline.retired) c
    by true h = (a.stopped h).2 ∙ ap (due core01 s) (sym a.retired)
    by false h = a.running h

abbrev itself : ℕ → ℕ
itself x = x

pub pipe_refuses_disagrees : (n : ℕ) → Disagrees (pipe_refuses n) halt 5
unfolding PipeFoul
pipe_refuses_disagrees n i a = differs itself 0 5 refl (agreed _ _ _ _ a)

pub pipe_idles_disagrees : Disagrees pipe_idles halt 5
unfolding PipeFoul
pipe_idles_disagrees i a = differs itself 0 5 refl (agreed _ _ _ _ a)

-- after any number of clocks: of a code without functions the plain engine performs one instruction, and stops with INS
pub pipe_halts_disagrees : (f : PipeReplay) (c : ℕ) → Disagrees (pipe_halts f) unknown c
unfolding PipeFoul plain_from
pipe_halts_disagrees f c zero a = differs status_number 2 1 refl a.status
pipe_halts_disagrees f c (suc zero) a = differs status_number 2 4 refl a.status
pipe_halts_disagrees f c (suc (suc i)) a = true≢false (a.exactly.performed 1 (omega arith))

-- by clock 3 none is due, and it has stopped with HLT
pub pipe_whole_disagrees : (f : PipeReplay) → Disagrees (pipe_whole f) push 3
unfolding PipeFoul plain_from
pipe_whole_disagrees f zero a = differs status_number 2 1 refl a.status
pipe_whole_disagrees f (suc i) a = omega (arith, a.exactly.arrived 0 (omega arith))

pub pipe_makes_up_disagrees : Disagrees (pipe_makes_up (λ k. k + 4)) turn 8
unfolding PipeFoul plain_from
pipe_makes_up_disagrees i a = differs itself 6 8 refl (agreed _ _ _ _ a)

-- but not memory or codes in mid-run, which only the promises of the entries fix
pub stores_at_once_agrees : Agrees core01 (plain_from push) (after (pipe_stores_at_once right) push 3) 3 0
unfolding PipeFoul plain_from kept_of
stores_at_once_agrees =
    record {
      retired = refl;
      exactly = record { performed = λ k q. absurd (omega arith); arrived = λ k q. absurd (omega arith); awaited = λ _. early };
      addresses = refl;
      cycles = refl;
      kinds = refl;
      kept = λ _. refl;
      registers = refl;
      status = refl;
      last = refl;
      blame = refl;
      running = λ _. refl;
      stopped = λ h. absurd (true≢false (sym h));
    }
  where
    early : 3 < 5
    early = omega arith

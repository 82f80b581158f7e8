-- What a row asks and looks at: an entry's answer, and places of it with the number that each must have.
use Rattle.std.specs.Prelude.{ℕ, ◌^◌, Bool, true, false, cond, ◌&&◌, List, [], ◌∷◌, eqb, get_or}
use Prim.Native.String.{String}
use Rattle.machine.specs.Types.{fault_number, status_number, codes_number}
use Rattle.machine.specs.Words.{number}
use Rattle.machine.specs.Memory.{Memory}
use Rattle.machine.specs.Runs.{PlainAnswer, plain_run}
use Rattle.clocked.specs.PipeRuns.{PipeAnswer, pipe_run, pipe_run_unlogged}
use Rattle.clocked.specs.Computing.{computing}
use Rattle.records.specs.Names.{Instruction, Decoded, Executed, Accessed, Retired, Machine, bubble_d, in_d, bubble_e, in_e}
use Rattle.records.specs.Names.{bubble_m, in_m, bubble_w, in_w, none_kept, last_kept}
use Rattle.records.specs.Given.{Change, with}

-- a place of an answer, and the number that it must have
abbrev pub Look : Type 0 → Type 0
Look A = (A → ℕ) × ℕ

-- A NUMBER OF THE WHOLE ANSWER
abbrev pub refusal : PipeAnswer → ℕ
refusal r = r.number

abbrev pub predicted : PipeAnswer → ℕ
predicted r = r.pipeline.predicted

abbrev pub register : ℕ → PipeAnswer → ℕ
register q r = get_or r.pipeline.registers q 0

abbrev pub codes_now : PipeAnswer → ℕ
codes_now r = codes_number r.pipeline.codes

abbrev pub status : PipeAnswer → ℕ
status r = status_number r.pipeline.status

abbrev pub last : PipeAnswer → ℕ
last r = r.pipeline.last

-- why a bad fetch stopped it, and the byte at fault
abbrev pub blamed : PipeAnswer → ℕ
blamed r = fault_number r.pipeline.blame.fault

abbrev pub blamed_at : PipeAnswer → ℕ
blamed_at r = r.pipeline.blame.address

abbrev pub retired : PipeAnswer → ℕ
retired r = r.pipeline.retired

abbrev pub cycles : PipeAnswer → ℕ
cycles r = r.pipeline.cycles

abbrev pub loaduse : PipeAnswer → ℕ
loaduse r = r.pipeline.kinds.loaduse

abbrev pub mispredict : PipeAnswer → ℕ
mispredict r = r.pipeline.kinds.mispredict

abbrev pub returned : PipeAnswer → ℕ
returned r = r.pipeline.kinds.returned

abbrev pub patched : PipeAnswer → ℕ
patched r = r.pipeline.kinds.patched

abbrev pub byte : ℕ → PipeAnswer → ℕ
byte a r = get_or r.memory.bytes a 0

abbrev pub word : ℕ → PipeAnswer → ℕ
word a r = number 8 r.memory.bytes a

-- the place of either log
abbrev pub address_log : ℕ → PipeAnswer → ℕ
address_log j r = get_or r.addresses j 0

abbrev pub cycle_log : ℕ → PipeAnswer → ℕ
cycle_log j r = get_or r.cycles j 0

-- WHAT STANDS IN A STAGE: a number of it, or this where it is a bubble, or none is kept; no word is so large
abbrev pub bubble : ℕ
bubble = 2 ^ 64

abbrev pub d : (Instruction → ℕ) → PipeAnswer → ℕ
d f r = elim r.pipeline.d [ bubble_d ↦ bubble | in_d i ↦ f i ]

abbrev in_stage_e : (Decoded → ℕ) → PipeAnswer → ℕ
in_stage_e f r = elim r.pipeline.e [ bubble_e ↦ bubble | in_e x ↦ f x ]

abbrev in_stage_m : (Executed → ℕ) → PipeAnswer → ℕ
in_stage_m f r = elim r.pipeline.m [ bubble_m ↦ bubble | in_m x ↦ f x ]

abbrev in_stage_w : (Accessed → ℕ) → PipeAnswer → ℕ
in_stage_w f r = elim r.pipeline.w [ bubble_w ↦ bubble | in_w x ↦ f x ]

abbrev of_kept : (Retired → ℕ) → PipeAnswer → ℕ
of_kept f r = elim r.pipeline.kept [ none_kept ↦ bubble | last_kept x ↦ f x ]

-- of the instruction there
abbrev pub e : (Instruction → ℕ) → PipeAnswer → ℕ
e f = in_stage_e (λ x. f x.instruction)

abbrev pub m : (Instruction → ℕ) → PipeAnswer → ℕ
m f = in_stage_m (λ x. f x.instruction)

abbrev pub w : (Instruction → ℕ) → PipeAnswer → ℕ
w f = in_stage_w (λ x. f x.instruction)

abbrev pub kept : (Instruction → ℕ) → PipeAnswer → ℕ
kept f = of_kept (λ x. f x.instruction)

-- its fields
abbrev pub address : Instruction → ℕ
address i = i.address

abbrev pub fetch_status : Instruction → ℕ
fetch_status i = status_number i.status

abbrev pub code : Instruction → ℕ
code i = i.code

abbrev pub function : Instruction → ℕ
function i = i.function

abbrev pub ra : Instruction → ℕ
ra i = i.ra

abbrev pub rb : Instruction → ℕ
rb i = i.rb

abbrev pub constant : Instruction → ℕ
constant i = i.constant

abbrev pub next : Instruction → ℕ
next i = i.next

abbrev pub fault : Instruction → ℕ
fault i = fault_number i.fault

-- what it carries: in E both values; in M valA, the result and whether its condition holds; in W the result, the word and the status; and
-- whether the condition of the kept one held
abbrev pub val_a : PipeAnswer → ℕ
val_a = in_stage_e (λ x. x.a)

abbrev pub val_b : PipeAnswer → ℕ
val_b = in_stage_e (λ x. x.b)

abbrev bit : Bool → ℕ
bit b = cond b 1 0

abbrev pub carried_a : PipeAnswer → ℕ
carried_a = in_stage_m (λ x. x.a)

abbrev pub result : PipeAnswer → ℕ
result = in_stage_m (λ x. x.result)

abbrev pub holds : PipeAnswer → ℕ
holds = in_stage_m (λ x. bit x.holds)

abbrev pub result_w : PipeAnswer → ℕ
result_w = in_stage_w (λ x. x.result)

abbrev pub loaded : PipeAnswer → ℕ
loaded = in_stage_w (λ x. x.word)

abbrev pub status_w : PipeAnswer → ℕ
status_w = in_stage_w (λ x. status_number x.status)

abbrev pub patched_w : PipeAnswer → ℕ
patched_w = in_stage_w (λ x. bit x.patched)

abbrev pub kept_patched : PipeAnswer → ℕ
kept_patched = of_kept (λ x. bit x.patched)

abbrev pub kept_held : PipeAnswer → ℕ
kept_held = of_kept (λ x. bit x.holds)

-- OF THE PLAIN ENGINE
abbrev pub plain_refusal : PlainAnswer → ℕ
plain_refusal r = r.number

abbrev pub plain_register : ℕ → PlainAnswer → ℕ
plain_register q r = get_or r.machine.registers q 0

abbrev pub plain_codes : PlainAnswer → ℕ
plain_codes r = codes_number r.machine.codes

abbrev pub plain_address : PlainAnswer → ℕ
plain_address r = r.machine.address

abbrev pub plain_status : PlainAnswer → ℕ
plain_status r = status_number r.machine.status

abbrev pub plain_last : PlainAnswer → ℕ
plain_last r = r.machine.last

abbrev pub plain_count : PlainAnswer → ℕ
plain_count r = r.machine.count

abbrev pub plain_fault : PlainAnswer → ℕ
plain_fault r = fault_number r.machine.blame.fault

abbrev pub plain_fault_at : PlainAnswer → ℕ
plain_fault_at r = r.machine.blame.address

abbrev pub plain_log : ℕ → PlainAnswer → ℕ
plain_log j r = get_or r.log j 0

-- ROWS: a rule by its number in docs/RULES.md and in words, and whether it holds
abbrev pub Row : Type 0
Row = String × Bool

abbrev seen : {A : Type 0} → A → List (Look A) → Bool
seen r [] = true
seen r (l ∷ ls) = eqb (l.0 r) l.1 && seen r ls

abbrev pub same : List ℕ → List ℕ → Bool
same [] [] = true
same [] (y ∷ ys) = false
same (x ∷ xs) [] = false
same (x ∷ xs) (y ∷ ys) = eqb x y && same xs ys

-- numbers, and those that they must be
abbrev pub numbers : String → (found wanted : List ℕ) → Row
numbers s xs ys = (s, same xs ys)

-- an answer, and what is looked at in it
abbrev pub answers : {A : Type 0} → String → A → List (Look A) → Row
answers s r ls = (s, seen r ls)

-- so many clocks of the record with these changes, not refused
abbrev pub clocked : String → List Change → Memory → (clocks : ℕ) → List (Look PipeAnswer) → Row
clocked s cs m n ls = answers s (pipe_run_unlogged (with cs) m n) ((refusal, 0) ∷ ls)

-- a run of the record with these changes, with both logs
abbrev pub ran : String → List Change → Memory → (budget : ℕ) → (addresses cycles : List ℕ) → List (Look PipeAnswer) → Row
ran s cs m n a y ls = answers s (pipe_run (with cs) m n a y) ls

-- a plain run
abbrev pub performed : String → Machine → Memory → (budget : ℕ) → (log : List ℕ) → List (Look PlainAnswer) → Row
performed s k m n l ls = answers s (plain_run k m n l) ls

-- THE TEST OF A LIST OF ROWS: the rules that do not hold
unfoldable pub failing : List Row → List String
unfolding computing
failing [] = []
failing (r ∷ rs) = let rest = failing rs in cond r.1 rest (r.0 ∷ rest)

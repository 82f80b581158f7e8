-- What a case asks: one image, run by both engines from a fresh start at 0 with ZF=1, and what both must answer.
use Rattle.std.specs.Prelude.{ℕ, ◌-◌, Bool, true, ◌&&◌, List, [], ◌∷◌, ◌++◌, eqb, get_or, replicate}
use Rattle.machine.specs.Types.{status_number, codes_number}
use Rattle.machine.specs.Words.{number}
use Rattle.machine.specs.Memory.{Memory}
use Rattle.clocked.specs.Prediction.{core_of}
use Rattle.clocked.specs.Charges.{charge}
use Rattle.machine.specs.Plain.{plain_start, plain_of}
use Rattle.clocked.specs.Pipeline.{pipe_start}
use Rattle.machine.specs.Runs.{PlainAnswer, plain_run}
use Rattle.clocked.specs.PipeRuns.{PipeAnswer, pipe_run}
use Rattle.records.specs.Given.{image, given, coded}
use Rattle.records.specs.Looks.{same}
use Rattle.cases.specs.Names.{Status, Codes, Settings}
use Rattle.cases.specs.Computing.{computing}

-- what a case looks at besides: register q, the word at a, the charge of instruction k
pub data What : Type 0 where
  register word charged : What

-- what, which, and the value that it must have
abbrev pub Look : Type 0
Look = What × ℕ × ℕ

-- the pipeline's settings; memory has size bytes, the first ones given; each register is 0 but those given; then what both engines answer
pub record Case : Type 0 where
  pub settings : Settings
  pub size : ℕ
  pub bytes : ℕ
  pub image : ℕ
  pub registers : List (ℕ × ℕ)
  pub status : Status
  pub last : ℕ
  pub codes : ℕ
  pub retired : ℕ
  pub cycles : ℕ
  pub kinds : List ℕ
  pub looks : List Look

abbrev memory_of : Case → Memory
memory_of c = image c.size c.bytes c.image

abbrev fresh : Codes
fresh = coded 4

-- a budget that reaches every stop here, and a log for it
abbrev budget : ℕ
budget = 100

abbrev log : List ℕ
log = replicate budget 0

abbrev by_plain : Case → PlainAnswer
by_plain c = plain_run (plain_start c.settings.window (given c.registers) fresh 0) (memory_of c) budget log

abbrev by_pipeline : Case → PipeAnswer
by_pipeline c = pipe_run (pipe_start c.settings (given c.registers) fresh 0) (memory_of c) budget log log

-- what a look finds in either engine
abbrev in_plain : Case → PlainAnswer → What → ℕ → ℕ
in_plain c s register q = get_or s.machine.registers q 0
in_plain c s word a = number 8 s.memory.bytes a
in_plain c s charged k = charge (core_of c.settings) (plain_of (plain_start c.settings.window (given c.registers) fresh 0) (memory_of c)) k

-- a charge is seen in the cycles in which k and its predecessor retired
abbrev in_pipeline : PipeAnswer → What → ℕ → ℕ
in_pipeline p register q = get_or p.pipeline.registers q 0
in_pipeline p word a = number 8 p.memory.bytes a
in_pipeline p charged k = get_or p.cycles (k - 1) 0 - get_or p.cycles (k - 2) 0 - 1

abbrev seen : Case → PlainAnswer → PipeAnswer → List Look → Bool
seen c s p [] = true
seen c s p (l ∷ ls) = eqb (in_plain c s l.0 l.1) l.2 && (eqb (in_pipeline p l.0 l.1) l.2 && seen c s p ls)

-- the numbers that both engines answer, and those that are to come out
abbrev answered : PlainAnswer → PipeAnswer → List ℕ
answered s p =
    s.number ∷ status_number s.machine.status ∷ s.machine.last ∷ codes_number s.machine.codes ∷ s.machine.count
    ∷ p.number ∷ status_number p.pipeline.status ∷ p.pipeline.last ∷ codes_number p.pipeline.codes ∷ p.pipeline.retired
    ∷ p.pipeline.cycles ∷ p.pipeline.kinds.loaduse ∷ p.pipeline.kinds.mispredict ∷ p.pipeline.kinds.returned ∷ p.pipeline.kinds.patched ∷ []

abbrev expected : Case → List ℕ
expected c =
    let both : List ℕ = 0 ∷ status_number c.status ∷ c.last ∷ c.codes ∷ c.retired ∷ [] in
    both ++ (both ++ c.cycles ∷ c.kinds)

-- THE TEST OF A CASE
unfoldable pub holds : Case → Bool
unfolding computing
holds c = let s = by_plain c in let p = by_pipeline c in same (answered s p) (expected c) && seen c s p c.looks

unfoldable pub all_hold : List Case → Bool
unfolding holds
all_hold [] = true
all_hold (c ∷ cs) = holds c && all_hold cs

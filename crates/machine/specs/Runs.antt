-- Budgets, logs, answers: the tests that refusals share, and what fetching, a fresh start and the plain run give back, refusals included.
use Rattle.std.specs.Prelude.{ℕ, ◌+◌, Bool, false, cond, ◌||◌, List, [], ◌∷◌, ltb, leb, eqb, length}
use Rattle.machine.specs.Types.{Window, no_window, within, Machine, Codes, Instruction, Blame, Fetched, adr, faulty, first_missing}
use Rattle.machine.specs.Memory.{Memory, size, through, Registers}
use Rattle.machine.specs.Fetch.{fetch, blame_of, stopping}
use Rattle.machine.specs.Plain.{Plain, plain_of, plain_start, steps}

-- "The caller lends a log of 64-bit words"; "place k-1 takes the k-th retirement of the call, the rest stays."
unfoldable pub laid : List ℕ → List ℕ → List ℕ
laid [] log = log
laid (e ∷ es) [] = []
laid (e ∷ es) (x ∷ log) = e ∷ laid es log

-- THE TESTS OF THE TABLE OF REFUSALS
-- 1: N is 0, or above the limit of #109: "Memory may be up to 65,536 bytes. Refusal 1 moves to that limit"
unfoldable pub size_refused : ℕ → Bool
size_refused n = eqb n 0 || ltb 65536 n

-- 3: "budget 0, or count plus budget over the limit", without wrapping
unfoldable pub budget_refused : (limit count budget : ℕ) → Bool
budget_refused limit count budget = eqb budget 0 || ltb limit (count + budget)

-- 4: "a log shorter than the budget", by the lengths of the logs that are lent
unfoldable pub log_refused : List ℕ → ℕ → Bool
log_refused [] budget = false
log_refused (n ∷ ns) budget = ltb n budget || log_refused ns budget

-- 5, of #113: a code window "first address and end, both at most N, the end not below the first; otherwise refusal 5"
unfoldable pub window_refused : Window → (size : ℕ) → Bool
window_refused no_window size = false
window_refused (within (first, end)) size = ltb size first || (ltb size end || ltb end first)

-- 6, of #109: "a fresh start address not below N becomes refusal 6"
unfoldable pub start_refused : (size address : ℕ) → Bool
start_refused size a = leb size a

-- "Lowest number wins." "Otherwise answer 0." The first that applies, in lists that ascend
unfoldable pub lowest : List (ℕ × Bool) → ℕ
lowest [] = 0
lowest (t ∷ ts) = cond t.1 t.0 (lowest ts)

-- an answer to fetching: the number, the instruction, and what a bad fetch is blamed on
pub record FetchAnswer : Type 0 where
  pub number : ℕ
  pub instruction : Instruction
  pub blame : Blame

abbrev pub fetched_as : ℕ → Fetched → FetchAnswer
fetched_as n f = record { number = n; instruction = f.instruction; blame = f.blame }

-- FETCHING, which has no record to give back: refused, it answers the nop that a fetch outside memory gives
unfoldable pub fetch_answer : Memory → ℕ → FetchAnswer
fetch_answer m a =
    let n = lowest ((1, size_refused (size m)) ∷ []) in
    let i = cond (eqb n 0) (fetch m a) (stopping a adr (faulty first_missing)) in
    record { number = n; instruction = i; blame = blame_of m i }

-- A FRESH START: 6 is "checked last". Refused, it gives back the record that was asked for, as it gives it back otherwise
unfoldable pub start_refusal : Window → (size address : ℕ) → ℕ
start_refusal w size a = lowest ((1, size_refused size) ∷ (5, window_refused w size) ∷ (6, start_refused size a) ∷ [])

unfoldable pub plain_started : Window → ℕ → Registers → Codes → ℕ → ℕ × Machine
plain_started w size r c a = (start_refusal w size a, plain_start w r c a)

-- THE PLAIN RUN
abbrev pub plain_limit : ℕ
plain_limit = 65536

unfoldable pub plain_refusal : Window → (size count budget : ℕ) → List ℕ → ℕ
plain_refusal w size count budget logs =
    lowest
    ((1, size_refused size) ∷ (3, budget_refused plain_limit count budget) ∷ (4, log_refused logs budget) ∷ (5, window_refused w size) ∷ [])

-- an answer: the number, the record, and all that was lent
pub record PlainAnswer : Type 0 where
  pub number : ℕ
  pub machine : Machine
  pub memory : Memory
  pub log : List ℕ

abbrev pub plain_answer : ℕ → Machine → Memory → List ℕ → PlainAnswer
plain_answer n k m l = record { number = n; machine = k; memory = m; log = l }

-- memory is given back as it was lent, without a window
unfoldable pub plain_done : Plain → List ℕ → PlainAnswer
plain_done s log = plain_answer 0 s.machine (through no_window s.memory) (laid s.log log)

-- a refusal is "number, the record as given, nothing changed"; logs are the lengths of the logs lent
unfoldable pub plain_by : List ℕ → Machine → Memory → ℕ → List ℕ → PlainAnswer
plain_by logs k m budget log =
    let n = plain_refusal k.window (size m) k.count budget logs in
    cond (eqb n 0) (plain_done (steps (plain_of k m) budget) log) (plain_answer n k m log)

unfoldable pub plain_run : Machine → Memory → ℕ → List ℕ → PlainAnswer
plain_run k m budget log = plain_by (length log ∷ []) k m budget log

-- "A step or clock is a run of 1 without logs."
unfoldable pub plain_step : Machine → Memory → PlainAnswer
plain_step k m = plain_by [] k m 1 []

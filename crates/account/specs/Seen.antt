-- Demand 3's premise at its weakest: each instruction is fetched, from memory as it then stands, as the instruction that the plain engine
-- performs. From the plain history alone.
use Rattle.std.specs.Prelude.{ℕ, zero, suc, ◌+◌, ◌-◌, ◌≤◌, ◌<◌, true, false, cond, ◌≡◌, leb, length}
use Rattle.account.specs.Names.{Option, Reason, free, because, waited, wrongly_guessed, returned, patched}
use Rattle.machine.specs.Memory.{Memory}
use Rattle.machine.specs.Fetch.{fetch}
use Rattle.machine.specs.Plain.{Plain, is_stopped, fetched, steps}
use Rattle.clocked.specs.Prediction.{Core}
use Rattle.clocked.specs.Charges.{reason_of, due}
use Rattle.clocked.specs.Pipeline.{clocks}
use Rattle.clocked.specs.Premise.{writes_byte, has_byte}
use Rattle.account.specs.Statement.{Start, plain_from, piped_from, Agrees}

-- 1 where an instruction waits for a load: it does so in D, after its fetch. Every other charge passes before the fetch
unfoldable pub waiting : Option Reason → ℕ
waiting free = 0
waiting (because waited) = 1
waiting (because wrongly_guessed) = 0
waiting (because returned) = 0
waiting (because patched) = 0

unfoldable pub wait : Core → Plain → ℕ → ℕ
wait g s k = waiting (reason_of g s k)

-- the cycle in which instruction k is fetched for good: it stands in D, E, M and W in the cycles after it
unfoldable pub fetch_cycle : Core → Plain → ℕ → ℕ
fetch_cycle g s k = due g s k - (4 + wait g s k)

-- how many of the first n instructions are due by cycle c
unfoldable pub due_among : Core → Plain → ℕ → ℕ → ℕ
due_among g s c zero = 0
due_among g s c (suc n) = cond (leb (due g s (suc n)) c) (suc n) (due_among g s c n)

-- memory as the fetch of instruction n + 1 finds it: a store writes at the end of the cycle before the one in which it is due, so it is the
-- plain engine's after the instructions that are due by the cycle of the fetch
unfoldable pub seen : Core → Plain → ℕ → Memory
seen g s n = (steps s (due_among g s (fetch_cycle g s (suc n)) n)).memory

-- instruction n + 1 is fetched as the plain engine fetches it: the same after parsing, whatever bytes say so
abbrev pub FetchedAlike : Core → Plain → ℕ → Type 0
FetchedAlike g s n = fetch (seen g s n) (steps s n).machine.address ≡ fetched (steps s n)

-- THE PREMISE: so is each of the first K instructions that the plain engine performs
abbrev pub Seen : Core → Plain → ℕ → Type 0
Seen g s K = (n : ℕ) → n < K → is_stopped (steps s n) ≡ false → FetchedAlike g s n

-- by pairs: the fetch of instruction n + 1 comes before the store of instruction j + 1 is in memory
abbrev pub FetchedBefore : Core → Plain → (n j : ℕ) → Type 0
FetchedBefore g s n j = due g s (suc n) < due g s (suc j) + 4 + wait g s (suc n)

-- no store writes a byte of an instruction that is fetched before
abbrev pub UntouchedAhead : Core → Plain → ℕ → Type 0
UntouchedAhead g s K =
    (j n : ℕ) → j < n → FetchedBefore g s n j → n < K → is_stopped (steps s n) ≡ false
    → (x : ℕ) → writes_byte (steps s j) x ≡ true → has_byte (steps s n) x ≡ true → ⊥

-- demand 3 under another premise
abbrev pub Demand3Under : (Core → Plain → ℕ → Type 0) → Type 0
Demand3Under Premise =
    (g : Core) (t : Start) → length t.registers ≡ 15 → (k : ℕ) → Premise g (plain_from t) (suc k)
    → (c : ℕ) → c ≤ due g (plain_from t) (suc k) → (n : ℕ) × Agrees g (plain_from t) (clocks g (piped_from t) c) c n

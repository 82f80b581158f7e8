-- The cycle account: what an instruction is charged, by its predecessor (for the counts that the pipeline keeps too), and in which cycle it is due,
-- from the plain history alone.
use Rattle.std.specs.Prelude.{ℕ, zero, suc, ◌+◌, cond, not, ◌&&◌, List, [], ◌∷◌, ◌++◌, eqb}
use Rattle.clocked.specs.Record.{Instruction, Accessed, Retired, Kept, none_kept, last_kept, Option, Reason, free, because, waited, wrongly_guessed, returned, patched, Kinds}
use Rattle.machine.specs.Table.{is, ret}
use Rattle.clocked.specs.Prediction.{Core, mispredicted, load_use}
use Rattle.machine.specs.Plain.{Plain, fetched, accessed, steps}

-- "Charge of instruction k ≥ 2, by its predecessor: 1 if that loads a register among k's sources; 2 if it was a conditional jump not
-- taken; 3 if ret; else 0." "The charge of 2 falls after a conditional jump whose outcome differs from the prediction" (02, #105);
-- behind a store into the window "The following instruction is charged 3, kept as a fourth kind" (02, #113), which goes before the others
unfoldable pub reason_behind : Core → Retired → Instruction → Option Reason
reason_behind g k j =
    let i = k.instruction in
    cond k.patched (because patched)
    (cond (load_use g i j) (because waited)
    (cond (mispredicted g i k.holds && not (eqb i.function 0)) (because wrongly_guessed)
    (cond (is ret i) (because returned) free)))

unfoldable pub amount : Option Reason → ℕ
amount free = 0
amount (because waited) = 1
amount (because wrongly_guessed) = 2
amount (because returned) = 3
amount (because patched) = 3

-- "The cycle counts kept by kind sum the charges" "(a return adds 3)"
unfoldable pub no_kinds : Kinds
no_kinds = record { loaduse = 0; mispredict = 0; returned = 0; patched = 0 }

unfoldable pub counted : Kinds → Option Reason → Kinds
counted t free = t
counted t (because waited) = record { loaduse = t.loaduse + 1; mispredict = t.mispredict; returned = t.returned; patched = t.patched }
counted t (because wrongly_guessed) = record { loaduse = t.loaduse; mispredict = t.mispredict + 2; returned = t.returned; patched = t.patched }
counted t (because returned) = record { loaduse = t.loaduse; mispredict = t.mispredict; returned = t.returned + 3; patched = t.patched }
counted t (because patched) = record { loaduse = t.loaduse; mispredict = t.mispredict; returned = t.returned; patched = t.patched + 3 }

-- "the record keeps the last instruction retired with AOK"
unfoldable pub retired_of : Accessed → Retired
retired_of w = record { instruction = w.instruction; holds = w.holds; patched = w.patched }

-- "with none kept, the next one retired is charged 0"
unfoldable pub reason_from : Core → Kept → Instruction → Option Reason
reason_from g none_kept j = free
reason_from g (last_kept k) j = reason_behind g k j

-- the reason of instruction k of the plain history from s, counted from 1; "Instruction 1 has charge 0."
unfoldable pub reason_of : Core → Plain → ℕ → Option Reason
reason_of g s zero = free
reason_of g s (suc zero) = free
reason_of g s (suc (suc n)) = reason_behind g (retired_of (accessed (steps s n))) (fetched (steps s (suc n)))

unfoldable pub charge : Core → Plain → ℕ → ℕ
charge g s k = amount (reason_of g s k)

-- the charges of instructions 1 to k, in all and by kind
unfoldable pub charges : Core → Plain → ℕ → ℕ
charges g s zero = 0
charges g s (suc k) = charges g s k + charge g s (suc k)

unfoldable pub kinds_of : Core → Plain → ℕ → Kinds
kinds_of g s zero = no_kinds
kinds_of g s (suc k) = counted (kinds_of g s k) (reason_of g s (suc k))

-- demand 3: "the k-th in cycle k + 4 plus the charges of instructions 1 to k"
unfoldable pub due : Core → Plain → ℕ → ℕ
due g s k = k + 4 + charges g s k

-- the cycles in which instructions 1 to k are due, in order
unfoldable pub due_cycles : Core → Plain → ℕ → List ℕ
due_cycles g s zero = []
due_cycles g s (suc k) = due_cycles g s k ++ due g s (suc k) ∷ []

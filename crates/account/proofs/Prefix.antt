-- The prefix: the premise up to instruction k + 1 alone settles the first k + 1 lines of the logs, however far the pipeline runs past it.
use Rattle.std.specs.Prelude.{ℕ, zero, suc, ◌+◌, ◌-◌, ◌≤◌, false, List, [], ◌++◌, ◌≡◌, refl, length}
use Rattle.std.proofs.Common.{append-nil, append_assoc, ap, sym, ◌∙◌, subst, arith}
use Rattle.machine.specs.Plain.{is_stopped, steps}
use Rattle.clocked.specs.Prediction.{Core}
use Rattle.clocked.specs.Charges.{due, due_cycles}
use Rattle.clocked.specs.Pipeline.{Piped, advanced, stopped_in, clock, clocks}
use Rattle.account.specs.Seen.{Seen}
use Rattle.account.specs.Statement.{Start, plain_from, piped_from}
use Rattle.account.proofs.Retirement.{clock_any}
use Rattle.account.proofs.Uses.{on_time}
use Rattle.account.specs.Prefix.{Begins}

pub begins_all : {l a : List ℕ} → l ≡ a → Begins l a
begins_all {a = a} e = record { rest = []; whole = e ∙ sym (append-nil a) }

begins_further : {a b l : List ℕ} → Begins b a → Begins l b → Begins l a
begins_further {a} x y =
    record { rest = x.rest ++ y.rest; whole = y.whole ∙ (ap (λ (z : List ℕ). z ++ y.rest) x.whole ∙ append_assoc a x.rest y.rest) }

-- a clock writes behind what is logged
record Longer (p q : Piped) : Type 0 where
  addresses : Begins q.address_log p.address_log
  cycles : Begins q.cycle_log p.cycle_log

same_logs : (p : Piped) → Longer p p
same_logs p = record { addresses = begins_all refl; cycles = begins_all refl }

longer_clock : (g : Core) (p : Piped) → Longer p (clock g p)
unfolding advanced stopped_in
longer_clock g p =
    clock_any g p (Longer p) (same_logs p) (record { addresses = record { rest = _; whole = refl }; cycles = record { rest = _; whole = refl } })
    (λ w. record { addresses = record { rest = _; whole = refl }; cycles = record { rest = _; whole = refl } })

longer : (g : Core) (p : Piped) (c d : ℕ) → Longer (clocks g p c) (clocks g p (d + c))
unfolding clocks
longer g p c zero =
    let e : 0 + c ≡ c = omega arith in
    rw e (same_logs (clocks g p c))
longer g p c (suc d) =
    let e : suc d + c ≡ suc (d + c) = omega arith in
    let a = longer g p c d in
    let b = longer_clock g (clocks g p (d + c)) in
    rw e (record { addresses = begins_further a.addresses b.addresses; cycles = begins_further a.cycles b.cycles })

-- instruction k + 1 is performed, within the premise, and due by clock c: whatever c is, and whatever comes after
pub logs_begin : (g : Core) (t : Start) → length t.registers ≡ 15 → (k : ℕ) → Seen g (plain_from t) (suc k) → is_stopped (steps (plain_from t) k) ≡ false
    → (c : ℕ) → due g (plain_from t) (suc k) ≤ c
    → Begins (clocks g (piped_from t) c).address_log (steps (plain_from t) (suc k)).log × Begins (clocks g (piped_from t) c).cycle_log
    (due_cycles g (plain_from t) (suc k))
logs_begin g t l k u r c q =
    let d = due g (plain_from t) (suc k) in
    let e : (c - d) + d ≡ c = omega arith in
    let a = on_time g t l k u r in
    let b = subst (λ (z : ℕ). Longer (clocks g (piped_from t) d) (clocks g (piped_from t) z)) e (longer g (piped_from t) d (c - d)) in
    (rw a.addresses at b.addresses, rw a.cycles at b.cycles)

-- Due cycles: they grow, nothing that stands in the pipeline is overdue, the kinds sum to the charges, and n instructions take at most 4n + 1 cycles.
use Rattle.std.specs.Prelude.{ℕ, zero, suc, ◌+◌, ◌*◌, ◌≤◌, ◌<◌, true, false, ◌⊎◌, ◌≡◌, refl}
use Rattle.std.proofs.Common.{true≢false, inl, inr, sym, ◌∙◌, arith}
use Rattle.std.proofs.Math.Logic.{⊎_map}
use Rattle.std.proofs.Math.Decide.{dec_lt}
use Rattle.account.specs.Names.{Kinds, Option, Reason, free, because, waited, wrongly_guessed, returned, patched}
use Rattle.machine.specs.Plain.{Plain, is_stopped, steps}
use Rattle.clocked.specs.Prediction.{Core}
use Rattle.clocked.specs.Charges.{amount, no_kinds, counted, reason_of, charge, charges, kinds_of, due}
use Rattle.clocked.specs.Pipeline.{Piped}
use Rattle.account.specs.Statement.{DueBy}
use Rattle.account.proofs.Relation.{Beyond, AtF, AtD, AtE, AtM, AtW, beyond_f, stop_f, ready_f, beyond_d, stop_d, empty_d, full_d}
use Rattle.account.proofs.Relation.{beyond_e, stop_e, empty_e, full_e, beyond_m, stop_m, empty_m, full_m, beyond_w, empty_w, full_w}

-- THE ACCOUNT
-- a property of the first n + 1, from that of the first n and of the next
pub up_to : {P : ℕ → Type 0} (n : ℕ) → ((i : ℕ) → i < n → P i) → P n → (i : ℕ) → i < suc n → P i
up_to {P} n f x i h = go (dec_lt i n)
  where
    go : Dec (i < n) → P i
    go (yes q) = f i q
    go (no q) =
        let e : i ≡ n = omega arith in
        rw e x

pub due_grows : (g : Core) (s : Plain) (n : ℕ) → due g s n < due g s (suc n)
unfolding due charges
due_grows g s n = omega arith

-- by at least one cycle an instruction
pub due_order : (g : Core) (s : Plain) (k n : ℕ) → k ≤ n → due g s k + n ≤ due g s n + k
due_order g s k zero h =
    let e : k ≡ 0 = omega arith in
    rw e (omega arith)
due_order g s k (suc n) h =
    up_to {P = λ (i : ℕ). due g s i + suc n ≤ due g s (suc n) + i} (suc n) (λ i q. omega (arith, due_order g s i n (omega arith), due_grows g s n))
    (omega arith) k
    (omega arith)

-- the first n instructions are performed, and due by cycle c
pub record Older (g : Core) (s : Plain) (c n : ℕ) : Type 0 where
  pub performed : (i : ℕ) → i < n → is_stopped (steps s i) ≡ false
  pub arrived : (i : ℕ) → i < n → due g s (suc i) ≤ c

module _ (g : Core) (s : Plain) {c n : ℕ} (o : Older g s c n) where
  pub older_later : (d : ℕ) → c ≤ d → Older g s d n
  older_later d h = record { performed = o.performed; arrived = λ i q. omega (arith, o.arrived i q) }

  pub older_next : is_stopped (steps s n) ≡ false → (d : ℕ) → c ≤ d → due g s (suc n) ≡ d → Older g s d (suc n)
  older_next r d h t =
      record { performed = up_to n o.performed r; arrived = up_to {P = λ (i : ℕ). due g s (suc i) ≤ d} n (older_later d h).arrived (omega arith) }

  -- and they are all that are due, if the next is later, or if there is none
  pub exactly : (is_stopped (steps s n) ≡ false → c < due g s (suc n)) → DueBy g s c n
  exactly f = record { performed = o.performed; arrived = o.arrived; awaited = f }

  pub exactly_stopped : is_stopped (steps s n) ≡ true → DueBy g s c n
  exactly_stopped h = exactly (λ z. absurd (true≢false (sym h ∙ z)))

unfoldable pub total : Kinds → ℕ
total t = t.loaduse + t.mispredict + t.returned + t.patched

pub total_counted : (t : Kinds) (r : Option Reason) → total (counted t r) ≡ total t + amount r
unfolding total counted amount
total_counted t free = omega arith
total_counted t (because waited) = omega arith
total_counted t (because wrongly_guessed) = omega arith
total_counted t (because returned) = omega arith
total_counted t (because patched) = omega arith

-- "The cycle counts kept by kind sum the charges"
pub kinds_sum : (g : Core) (s : Plain) (n : ℕ) → total (kinds_of g s n) ≡ charges g s n
unfolding kinds_of charges charge no_kinds total
kinds_sum g s zero = refl
kinds_sum g s (suc n) = omega (arith, total_counted (kinds_of g s n) (reason_of g s (suc n)), kinds_sum g s n)

amount_most : (r : Option Reason) → amount r ≤ 3
unfolding amount
amount_most free = omega arith
amount_most (because waited) = omega arith
amount_most (because wrongly_guessed) = omega arith
amount_most (because returned) = omega arith
amount_most (because patched) = omega arith

-- "at most 4n + 1": instruction 1 has charge 0, any other at most 3
pub due_most : (g : Core) (s : Plain) (n : ℕ) → due g s (suc n) ≤ 4 * suc n + 1
unfolding due charges charge reason_of amount
due_most g s zero = omega arith
due_most g s (suc n) = omega (arith, due_most g s n, amount_most (reason_of g s (suc (suc n))))

-- THE RELATION: instruction n + 1 is as far from being due as its stage is from W, or beyond the premise
module _ (g : Core) (s : Plain) (K : ℕ) (p : Piped) (c : ℕ) where
  late_f : (n : ℕ) → is_stopped (steps s n) ≡ false → AtF g s K p c n → (c + 4 < due g s (suc n)) ⊎ Beyond g s K n
  late_f n r (beyond_f h) = inr h
  late_f n r (stop_f h) = absurd (true≢false (sym h ∙ r))
  late_f n r (ready_f l a h y t) = inl (omega arith)

  late_in_d : (n : ℕ) → is_stopped (steps s n) ≡ false → AtD g s K p c n → (c + 3 < due g s (suc n)) ⊎ Beyond g s K n
  late_in_d n r (beyond_d h) = inr h
  late_in_d n r (stop_d h) = absurd (true≢false (sym h ∙ r))
  late_in_d n r (empty_d h f) = ⊎_map (λ z. omega arith) (λ z. z) (late_f n r f)
  late_in_d n r (full_d l h t a) = inl (omega arith)

  pub late_e : (n : ℕ) → is_stopped (steps s n) ≡ false → AtE g s K p c n → (c + 2 < due g s (suc n)) ⊎ Beyond g s K n
  late_e n r (beyond_e h) = inr h
  late_e n r (stop_e h _) = absurd (true≢false (sym h ∙ r))
  late_e n r (empty_e _ h f) = ⊎_map (λ z. omega arith) (λ z. z) (late_in_d n r f)
  late_e n r (full_e l _ h t a) = inl (omega arith)

  pub late_m : (n : ℕ) → is_stopped (steps s n) ≡ false → AtM g s K p c n → (c + 1 < due g s (suc n)) ⊎ Beyond g s K n
  late_m n r (beyond_m h) = inr h
  late_m n r (stop_m h _ _) = absurd (true≢false (sym h ∙ r))
  late_m n r (empty_m _ _ h f) = ⊎_map (λ z. omega arith) (λ z. z) (late_e n r f)
  late_m n r (full_m l _ h t a) = inl (omega arith)

  pub late_w : (n : ℕ) → AtW g s K p c n → (c < due g s (suc n)) ⊎ Beyond g s K n
  late_w n (beyond_w h _) = inr h
  late_w n (empty_w r _ h f) = ⊎_map (λ z. omega arith) (λ z. z) (late_m n r f)
  late_w n (full_w l _ h t a) = inl (omega arith)

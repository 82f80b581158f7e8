-- Which stores a fetch does not see: those of at most three instructions before it, with no return, no wrongly guessed jump and no store into
-- the window among them, for behind these every instruction is fetched late enough.
use Rattle.std.specs.Prelude.{ℕ, suc, ◌+◌, ◌≤◌, ◌<◌, true, false, ◌≡◌}
use Rattle.std.proofs.Common.{ap, sym, ◌∙◌, arith}
use Rattle.std.proofs.Math.Decide.{dec_lt}
use Rattle.machine.specs.Table.{is, ret}
use Rattle.machine.specs.Plain.{Plain, is_stopped, fetched, steps}
use Rattle.clocked.specs.Prediction.{Core}
use Rattle.clocked.specs.Charges.{charge, charges, reason_of, due}
use Rattle.clocked.specs.Premise.{writes_byte, has_byte}
use Rattle.account.specs.Seen.{wait, FetchedBefore, UntouchedAhead}
use Rattle.account.proofs.Laws.{wrong_at, patches_at, falsely, writes_right, due_next, charge_wrong, charge_returned, charge_patched, waiting_less, wait_none}
use Rattle.account.proofs.Relation.{Guessed}
use Rattle.account.proofs.Timing.{due_order}

module _ (g : Core) (s : Plain) where
  -- what waits is charged
  due_wait : (n : ℕ) → due g s n + 1 + wait g s (suc n) ≤ due g s (suc n)
  unfolding due charges charge wait
  due_wait n = omega (arith, waiting_less (reason_of g s (suc n)))

  -- a charge of two or more between two instructions keeps them that far apart, beside the wait of the later
  apart : (i n : ℕ) → i < n → 2 ≤ charge g s (suc (suc i)) → due g s (suc i) + 1 + charge g s (suc (suc i)) + wait g s (suc n) ≤ due g s (suc n)
  apart i n h q = go (dec_lt (suc i) n)
    where
      go : Dec (suc i < n) → due g s (suc i) + 1 + charge g s (suc (suc i)) + wait g s (suc n) ≤ due g s (suc n)
      go (yes z) = omega (arith, due_next g s i, due_order g s (suc (suc i)) n z, due_wait n)
      go (no z) =
          let e : suc i ≡ n = omega arith in
          let none = ap (λ (m : ℕ). wait g s (suc m)) (sym e) ∙ wait_none g s i q in
          omega (arith, due_next g s i, ap (λ (m : ℕ). due g s (suc m)) e, none)

  module _ (j n : ℕ) (lo : j < n) (d : FetchedBefore g s n j) where
    pub within_three : n ≤ j + 3
    within_three = omega (arith, due_wait n, due_order g s (suc j) n lo)

    pub no_return : (i : ℕ) → j ≤ i → i < n → is ret (fetched (steps s i)) ≡ false
    no_return i a h =
        falsely _ (λ e.
        let c = charge_returned g s i e in
        omega (arith, apart i n h (omega arith), due_order g s (suc j) (suc i) (omega arith)))

    pub no_patch : (i : ℕ) → j ≤ i → i < n → patches_at (steps s i) ≡ false
    no_patch i a h =
        falsely _ (λ e.
        let c = (charge_patched g s i e).1 in
        omega (arith, apart i n h (omega arith), due_order g s (suc j) (suc i) (omega arith)))

    -- the store itself is no jump
    pub no_wrong : (x : ℕ) → writes_byte (steps s j) x ≡ true → (i : ℕ) → j ≤ i → i < n → wrong_at g (steps s i) ≡ false
    no_wrong x w i a h = go (dec_lt j i)
      where
        go : Dec (j < i) → wrong_at g (steps s i) ≡ false
        go (yes z) =
            falsely _ (λ e.
            let c = (charge_wrong g s i e).2 in
            omega (arith, apart i n h (omega arith), due_order g s (suc j) (suc i) (omega arith)))
        go (no z) =
            let e : j ≡ i = omega arith in
            rw (← e) (writes_right g (steps s j) x w)

-- no store writes a byte of any of the next three instructions, as far as neither a return, a wrongly guessed jump nor a store into the
-- window comes before it
abbrev pub UntouchedStraight : Core → Plain → ℕ → Type 0
UntouchedStraight g s K =
    (j n : ℕ) → j < n → n ≤ j + 3 → ((i : ℕ) → j ≤ i → i < n → Guessed g s K i) → n < K → is_stopped (steps s n) ≡ false
    → (x : ℕ) → writes_byte (steps s j) x ≡ true → has_byte (steps s n) x ≡ true → ⊥

pub straight_ahead : (g : Core) (s : Plain) (K : ℕ) → UntouchedStraight g s K → UntouchedAhead g s K
straight_ahead g s K u j n lo d q r x w = u j n lo (within_three g s j n lo d) between q r x w
  where
    between : (i : ℕ) → j ≤ i → i < n → Guessed g s K i
    between i a h = record { right = no_wrong g s j n lo d x w i a h; stays = no_return g s j n lo d i a h; keeps = no_patch g s j n lo d i a h }

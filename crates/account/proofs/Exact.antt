-- The weakest premise is exact: what follows from its being needed.
use Prim.Native.Nat.{ℕ, zero, suc, ◌-◌, ◌≤◌}
use Rattle.std.specs.Prelude.{◌↔◌, ◌≡◌, length}
use Rattle.std.proofs.Math.Bool.{false}
use Rattle.std.proofs.Common.{◌∙◌}
use Rattle.std.proofs.Math.Path.{ap}
use native.Mathlib.Omega.{arith}
use Rattle.account.specs.Names.{adr}
use Rattle.account.specs.Names.{no_fault, Blame}
use Rattle.machine.specs.Plain.{Plain, is_stopped, steps}
use Rattle.clocked.specs.Prediction.{Core}
use Rattle.clocked.specs.Charges.{due}
use Rattle.clocked.specs.Pipeline.{Piped, clocks}
use Rattle.account.specs.Statement.{Start, plain_from, piped_from, Agrees}
use Rattle.account.specs.Seen.{FetchedAlike, Seen}
use Rattle.account.proofs.Timing.{up_to, due_order}
use Rattle.account.proofs.Theorem.{demand3_seen}
use Rattle.account.proofs.Uses.{due_only, due_in_lem}
use Rattle.account.specs.Needed.{FailedAccess}
use Rattle.account.proofs.Needed.{failed?, failed_stays, needed}

module _ (g : Core) (t : Start) where
  abbrev plain : Plain
  plain = plain_from t

  abbrev piped : ℕ → Piped
  piped c = clocks g (piped_from t) c

  module _ (l : length t.registers ≡ 15) where
    -- so at the first that is not, the pipeline does not agree in its due cycle; or the plain engine fails there at an access, and, agreeing, so does the
    -- pipeline
    pub shows : (n : ℕ) → Seen g plain n → is_stopped (steps plain n) ≡ false → (FetchedAlike g plain n → ⊥)
        → (m : ℕ) → Agrees g plain (piped (due g plain (suc n))) (due g plain (suc n)) m
        → FailedAccess (steps plain (suc n)) × ((piped (due g plain (suc n))).pipeline.status ≡ adr)
        × ((piped (due g plain (suc n))).pipeline.blame.fault ≡ no_fault)
    shows n u r f m a = go (failed? (steps plain (suc n)))
      where
        same : m ≡ suc n
        same = due_only g plain _ m (suc n) a.exactly (due_in_lem g plain n r)

        go : Dec (FailedAccess (steps plain (suc n)))
            → FailedAccess (steps plain (suc n)) × ((piped (due g plain (suc n))).pipeline.status ≡ adr)
            × ((piped (due g plain (suc n))).pipeline.blame.fault ≡ no_fault)
        go (yes x) = (
          x,
          a.status ∙ (ap (λ (z : ℕ). (steps plain z).machine.status) same ∙ x.0),
          ap (λ (b : Blame). b.fault) a.blame ∙ (ap (λ (z : ℕ). (steps plain z).machine.blame.fault) same ∙ x.1),
        )
        go (no x) = absurd (f (needed g t l n u r x m a))

    -- EXACT: unless the plain engine fails at an access, the premise holds of the first k + 1 instructions exactly where the pipeline agrees up to the last
    -- one's due cycle
    pub exact : (k : ℕ) → (FailedAccess (steps plain (suc k)) → ⊥)
        → Seen g plain (suc k) ↔ ((c : ℕ) → c ≤ due g plain (suc k) → (n : ℕ) × Agrees g plain (piped c) c n)
    exact k bad = (λ u. demand3_seen g t l k u, λ f. up f (suc k) (omega arith))
      where
        up : ((c : ℕ) → c ≤ due g plain (suc k) → (n : ℕ) × Agrees g plain (piped c) c n) → (K : ℕ) → K ≤ suc k → Seen g plain K
        up f zero q n h = absurd (omega arith)
        up f (suc K) q n h =
            let u = up f K (omega arith) in
            let a = f (due g plain (suc K)) (omega (arith, due_order g plain (suc K) (suc k) q)) in
            up_to {P = λ (i : ℕ). is_stopped (steps plain i) ≡ false → FetchedAlike g plain i} K u
            (λ r. needed g t l K u r (λ z. bad (failed_stays plain (k - K) (suc K) (suc k) (omega arith) z)) a.0 a.1) n h

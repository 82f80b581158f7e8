-- Memory and codes in mid-run: they run ahead of the registers, memory by the instructions due one cycle later, codes by those due two later.
use Rattle.std.specs.Prelude.{ℕ, suc, ◌+◌, ◌≤◌, ◌<◌, true, ◌⊎◌, ◌≡◌, length}
use Rattle.std.proofs.Common.{inl, inr, arith}
use Rattle.machine.specs.Plain.{Plain, is_stopped, steps}
use Rattle.clocked.specs.Prediction.{Core}
use Rattle.clocked.specs.Charges.{due}
use Rattle.clocked.specs.Pipeline.{Piped, clocks}
use Rattle.account.specs.Seen.{Seen}
use Rattle.account.specs.Statement.{Start, plain_from, piped_from, DueBy}
use Rattle.account.proofs.Relation.{Beyond, AtE, BehindM, AtM, AtW, beyond_e, stop_e, empty_e, full_e}
use Rattle.account.proofs.Relation.{goes_m, patch_m, ret_m, beyond_m, stop_m, empty_m, full_m, beyond_w, empty_w, full_w}
use Rattle.account.proofs.Timing.{Older, older_later, older_next, exactly, exactly_stopped, due_grows, late_e, late_m}
use Rattle.account.proofs.Theorem.{After, Now, going, ended, after_clocks}
use Rattle.account.specs.Midrun.{Landed}

module _ (g : Core) (s : Plain) where
  -- before the bound nothing beyond the premise is near
  module _ (k : ℕ) (p : Piped) (c : ℕ) (q : c + 2 < due g s (suc k)) where
    near : {d n : ℕ} → d ≤ c + 2 → Older g s d n → Beyond g s (suc k) n → ⊥
    near b o h = omega (arith, o.arrived k h.above)

    sure : {d n : ℕ} → d ≤ c + 2 → Older g s d n → (d < due g s (suc n)) ⊎ Beyond g s (suc k) n → d < due g s (suc n)
    sure b o (inl z) = z
    sure b o (inr h) = absurd (near b o h)

    land_e : (a : ℕ) → DueBy g s (c + 1) a → p.memory ≡ (steps s a).memory → (b : ℕ) → Older g s (c + 2) b → AtE g s (suc k) p c b → Landed g s p c a b
    land_e a x m b o e =
        record { stores = x; memory = m; sets = exactly g s o (λ z. sure (omega arith) o (late_e g s (suc k) p c b z e)); codes = codes e }
      where
        codes : AtE g s (suc k) p c b → p.pipeline.codes ≡ (steps s b).machine.codes
        codes (beyond_e h) = absurd (near (omega arith) o h)
        codes (stop_e _ h) = h
        codes (empty_e h _ _) = h
        codes (full_e _ h _ _ _) = h

    land_stop : (n : ℕ) → Older g s (c + 1) n → is_stopped (steps s n) ≡ true → p.pipeline.codes ≡ (steps s n).machine.codes → p.memory ≡ (steps s n).memory
        → Landed g s p c n n
    land_stop n o h kc km =
        record { stores = exactly_stopped g s o h; memory = km; sets = exactly_stopped g s (older_later g s o (c + 2) (omega arith)) h; codes = kc }

    land_m : (n : ℕ) → Older g s (c + 1) n → AtM g s (suc k) p c n → (a b : ℕ) × Landed g s p c a b
    land_m n o (beyond_m h) = absurd (near (omega arith) o h)
    land_m n o (stop_m h kc km) = (n, n, land_stop n o h kc km)
    land_m n o (empty_m r km h e) =
        let now = exactly g s o (λ z. sure (omega arith) o (late_m g s (suc k) p c n z (empty_m r km h e))) in
        (n, n, land_e n now km n (older_later g s o (c + 2) (omega arith)) e)
    land_m n o (full_m l km h t a) = (n, suc n, go a)
      where
        now : DueBy g s (c + 1) n
        now = exactly g s o (λ _. omega arith)

        next : Older g s (c + 2) (suc n)
        next = older_next g s o l.runs (c + 2) (omega arith) t

        go : BehindM g s (suc k) p c n → Landed g s p c n (suc n)
        go (goes_m y z e) = land_e n now km (suc n) next e
        go (patch_m z kc) = record { stores = now; memory = km; sets = exactly g s next (λ _. omega (arith, due_grows g s (suc n))); codes = kc }
        go (ret_m y kc he hd) = record { stores = now; memory = km; sets = exactly g s next (λ _. omega (arith, due_grows g s (suc n))); codes = kc }

    land_w : (n : ℕ) → Older g s c n → AtW g s (suc k) p c n → (a b : ℕ) × Landed g s p c a b
    land_w n o (beyond_w h _) = absurd (near (omega arith) o h)
    land_w n o (empty_w r _ h a) = land_m n (older_later g s o (c + 1) (omega arith)) a
    land_w n o (full_w l _ h t a) = land_m (suc n) (older_next g s o l.runs (c + 1) (omega arith) t) a

    landed : (n : ℕ) → After g s k p c n → (a b : ℕ) × Landed g s p c a b
    landed n i = go i.now
      where
        go : Now g s k p c n → (a b : ℕ) × Landed g s p c a b
        go (going _ _ _ a) = land_w n i.older a
        go (ended h _ _ kc km _) = (n, n, land_stop n (older_later g s i.older (c + 1) (omega arith)) h kc km)

-- where cycle c + 2 comes before the one in which the last instruction within the premise is due
pub in_mid_run : (g : Core) (t : Start) → length t.registers ≡ 15 → (k : ℕ) → Seen g (plain_from t) (suc k)
    → (c : ℕ) → c + 2 < due g (plain_from t) (suc k) → (a b : ℕ) × Landed g (plain_from t) (clocks g (piped_from t) c) c a b
in_mid_run g t l k u c q =
    let x = after_clocks g t k l u c (omega arith) in
    landed g (plain_from t) k (clocks g (piped_from t) c) c q x.0 x.1

-- and where the premise holds throughout, after every clock
pub always_in_mid_run : (g : Core) (t : Start) → length t.registers ≡ 15 → ((K : ℕ) → Seen g (plain_from t) K)
    → (c : ℕ) → (a b : ℕ) × Landed g (plain_from t) (clocks g (piped_from t) c) c a b
unfolding due
always_in_mid_run g t l u c = in_mid_run g t l c (u (suc c)) c (omega arith)

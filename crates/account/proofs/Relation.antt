-- The relation between the pipeline after c clocks and the plain history from s: level by level, from W down to F. At each level the stage
-- holds the plain engine's own value of instruction n + 1, with the cycle in which that is due; or a bubble, and then the next level speaks
-- of it; or the plain engine is stopped by here, and nothing is claimed of what is younger; or it lies beyond the K instructions of the premise.
use Rattle.std.specs.Prelude.{ℕ, suc, ◌+◌, ◌≤◌, ◌<◌, true, false, ◌⊎◌, ◌≡◌}
use Rattle.account.specs.Names.{bubble_d, in_d, bubble_e, in_e, bubble_m, in_m, bubble_w, in_w}
use Rattle.machine.specs.Table.{is, ret}
use Rattle.machine.specs.Plain.{Plain, is_stopped, fetched, decoded, executed, accessed, steps}
use Rattle.clocked.specs.Prediction.{Core}
use Rattle.clocked.specs.Charges.{due}
use Rattle.clocked.specs.Pipeline.{Piped, executing, waits, fetch_address}
use Rattle.account.proofs.Laws.{bit, wrong_at, patches_at}
use Rattle.account.proofs.Signals.{waits_for}
use Rattle.account.specs.Seen.{wait}

-- of the first n instructions the first j are due by cycle d, and no other
pub record Sees (g : Core) (s : Plain) (d j n : ℕ) : Type 0 where
  pub lo : j ≤ n
  pub older : (i : ℕ) → i < j → due g s (suc i) ≤ d
  pub later : j < n → d < due g s (suc j)

module _ (g : Core) (s : Plain) (K : ℕ) where
  -- instruction n + 1 is performed, and within the premise
  pub record Known (n : ℕ) : Type 0 where
    pub runs : is_stopped (steps s n) ≡ false
    pub below : n < K

  -- it is performed, and beyond the premise
  pub record Beyond (n : ℕ) : Type 0 where
    pub runs : is_stopped (steps s n) ≡ false
    pub above : K ≤ n

  -- the instruction after it stands at the predicted address, and its bytes are not written by it
  pub record Guessed (n : ℕ) : Type 0 where
    pub right : wrong_at g (steps s n) ≡ false
    pub stays : is ret (fetched (steps s n)) ≡ false
    pub keeps : patches_at (steps s n) ≡ false

  -- n instructions are fetched, and the next fetch is right
  pub data AtF (p : Piped) (c n : ℕ) : Type 0 where
    beyond_f : Beyond n → AtF p c n
    stop_f : is_stopped (steps s n) ≡ true → AtF p c n
    ready_f : Known n → fetch_address g p ≡ (steps s n).machine.address
        → (p.pipeline.d ≡ bubble_d) ⊎ (p.pipeline.predicted ≡ (steps s n).machine.address)
        → bit (waits_for g p.pipeline.d (fetched (steps s n))) ≡ wait g s (suc n)
        → due g s (suc n) ≡ c + 5 + bit (waits g p) + bit (waits_for g p.pipeline.d (fetched (steps s n))) → AtF p c n

  -- what is younger than the instruction in D: behind a jump that will prove wrongly guessed, behind a return, and behind
  -- a store into the window, anything
  pub data BehindD (p : Piped) (c n : ℕ) : Type 0 where
    goes_d : Guessed n → AtF p c (suc n) → BehindD p c n
    wrong_d : wrong_at g (steps s n) ≡ true → BehindD p c n
    ret_d : is ret (fetched (steps s n)) ≡ true → BehindD p c n
    patch_d : patches_at (steps s n) ≡ true → BehindD p c n

  pub data AtD (p : Piped) (c n : ℕ) : Type 0 where
    beyond_d : Beyond n → AtD p c n
    stop_d : is_stopped (steps s n) ≡ true → AtD p c n
    empty_d : p.pipeline.d ≡ bubble_d → AtF p c n → AtD p c n
    full_d : Known n → p.pipeline.d ≡ in_d (fetched (steps s n)) → due g s (suc n) ≡ c + 4 + bit (waits g p) → BehindD p c n → AtD p c n

  -- ... than the one in E: behind a return D is empty by now
  pub data BehindE (p : Piped) (c n : ℕ) : Type 0 where
    goes_e : Guessed n → AtD p c (suc n) → BehindE p c n
    wrong_e : wrong_at g (steps s n) ≡ true → BehindE p c n
    ret_e : is ret (fetched (steps s n)) ≡ true → p.pipeline.d ≡ bubble_d → BehindE p c n
    patch_e : patches_at (steps s n) ≡ true → BehindE p c n

  -- the codes are the plain engine's of the instruction that E has next
  pub data AtE (p : Piped) (c n : ℕ) : Type 0 where
    beyond_e : Beyond n → AtE p c n
    stop_e : is_stopped (steps s n) ≡ true → p.pipeline.codes ≡ (steps s n).machine.codes → AtE p c n
    empty_e : p.pipeline.codes ≡ (steps s n).machine.codes → p.pipeline.e ≡ bubble_e → AtD p c n → AtE p c n
    full_e : Known n → p.pipeline.codes ≡ (steps s n).machine.codes → executing g p ≡ in_e (decoded (steps s n)) → due g s (suc n) ≡ c + 3 → BehindE p c n
        → AtE p c n

  -- ... than the one in M: a wrong guess is mended by now, behind a return E and D are empty, and behind a store
  -- into the window, which is about to cancel it, E and D still hold anything
  pub data BehindM (p : Piped) (c n : ℕ) : Type 0 where
    goes_m : is ret (fetched (steps s n)) ≡ false → patches_at (steps s n) ≡ false → AtE p c (suc n) → BehindM p c n
    patch_m : patches_at (steps s n) ≡ true → p.pipeline.codes ≡ (steps s (suc n)).machine.codes → BehindM p c n
    ret_m : is ret (fetched (steps s n)) ≡ true → p.pipeline.codes ≡ (steps s (suc n)).machine.codes → p.pipeline.e ≡ bubble_e → p.pipeline.d ≡ bubble_d
        → BehindM p c n

  -- memory is the plain engine's of the instruction that M has next
  pub data AtM (p : Piped) (c n : ℕ) : Type 0 where
    beyond_m : Beyond n → AtM p c n
    stop_m : is_stopped (steps s n) ≡ true → p.pipeline.codes ≡ (steps s n).machine.codes → p.memory ≡ (steps s n).memory → AtM p c n
    empty_m : is_stopped (steps s n) ≡ false → p.memory ≡ (steps s n).memory → p.pipeline.m ≡ bubble_m → AtE p c n → AtM p c n
    full_m : Known n → p.memory ≡ (steps s n).memory → p.pipeline.m ≡ in_m (executed (steps s n)) → due g s (suc n) ≡ c + 2 → BehindM p c n → AtM p c n

  -- registers are the plain engine's of the instruction that W has next: n have retired
  pub data AtW (p : Piped) (c n : ℕ) : Type 0 where
    beyond_w : Beyond n → p.pipeline.registers ≡ (steps s n).machine.registers → AtW p c n
    empty_w : is_stopped (steps s n) ≡ false → p.pipeline.registers ≡ (steps s n).machine.registers → p.pipeline.w ≡ bubble_w → AtM p c n → AtW p c n
    full_w : Known n → p.pipeline.registers ≡ (steps s n).machine.registers → p.pipeline.w ≡ in_w (accessed (steps s n)) → due g s (suc n) ≡ c + 1
        → AtM p c (suc n) → AtW p c n

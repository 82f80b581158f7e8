-- No record that a fresh start reaches is refused for its contents, so within the limit a run can be continued, and made clock by clock.
use Prim.Native.Nat.{ℕ, zero, suc, ◌+◌, ◌/◌, ◌%◌, ◌≤◌, ◌<◌}
use Rattle.std.specs.Prelude.{Bool, true, ◌&&◌, ◌||◌, ◌≡◌, leb, eqb, length, get_or, take, drop}
use Rattle.std.proofs.Math.Bool.{false, cond}
use mathlib.Core.List.{List, [], ◌∷◌}
use Rattle.std.proofs.Math.Path.{refl, ap}
use Rattle.std.proofs.Common.{sym, ◌∙◌, subst, div-lt_iff_lt-mul, mod-lt, length-set, get_or-set_same, get_or-set_other, get_or-drop}
use native.Mathlib.Omega.{arith}
use Rattle.std.proofs.Math.Decide.{dec_lt, ℕ_discrete}
use borrow.Author.Tests.{le-ltb, ltb-false, leb-false, ne_eqb}
use Rattle.std.proofs.Math.Dec.{ltb, eqb-suc-zero}
use Rattle.std.proofs.Math.ListN.{set, get_or-eq_default}
use Rattle.account.specs.Names.{Pipeline, Status, Option, Fault, Instruction, Executed, Accessed, Kept}
use Rattle.account.specs.Names.{StageD, bubble_d, in_d, StageE, bubble_e, in_e, StageM, bubble_m, in_m, StageW, bubble_w, in_w}
use Rattle.machine.specs.Words.{placed}
use Rattle.machine.specs.Memory.{Memory, code_end, holding, size, inside, store}
use Rattle.machine.specs.Table.{row_of, table, is, cmov, jump, operation}
use Rattle.machine.specs.Fetch.{fetch, parsed, stopping, half, own_bytes, size_at}
use Rattle.machine.specs.Stages.{decode, execute, access, stores, access_address, stored_word, new_memory}
use Rattle.clocked.specs.Prediction.{Core}
use Rattle.clocked.specs.Charges.{retired_of}
use Rattle.clocked.specs.Pipeline.{Piped, pipe_start, after_e, after_m, handed, executing, memory_after, mispredicts, waits, returns, fails, cancels, fetched_now}
use Rattle.clocked.specs.Pipeline.{fetch_address, next_d, decoded_d, next_e, next_m, kept_after, advanced, stopped_in, clock, clocks}
use Rattle.clocked.specs.PipeRuns.{instruction_refused, refused_in_d, refused_in_e, refused_in_m, refused_in_w, refused_kept, counts_refused}
use Rattle.machine.specs.Runs.{size_refused, budget_refused, log_refused, window_refused, lowest}
use Rattle.clocked.specs.PipeRuns.{settings_refused, record_refused, pipe_limit, pipe_refusal}
use Rattle.account.specs.Statement.{Start, piped_from}
use Rattle.account.proofs.Laws.{checked_any}
use Rattle.laws.specs.Tests.{neither}
use Rattle.clock_laws.specs.Settings.{clocks_keep}
use Rattle.account.proofs.Sight.{size_new_memory}
use Rattle.account.proofs.Timing.{total}
use Rattle.account.proofs.Retirement.{clock_any}
use Rattle.account.proofs.Own.{counts_within}
use Rattle.account.specs.Contents.{Bytes}

-- BYTES STAY BYTES
bytes_take : (n : ℕ) (m : List ℕ) → Bytes m → Bytes (take n m)
bytes_take zero m h x = omega arith
bytes_take (suc n) [] h x = omega arith
bytes_take (suc n) (b ∷ m) h zero = h 0
bytes_take (suc n) (b ∷ m) h (suc x) = bytes_take n m (λ y. h (suc y)) x

bytes_own : (m : Memory) (a : ℕ) → Bytes m.bytes → Bytes (own_bytes m a)
unfolding own_bytes
bytes_own m a h =
    let b = take (code_end m a) m.bytes in
    bytes_take (size_at m a) (drop a b) (λ x. subst (λ (y : ℕ). y < 256) (sym (get_or-drop a b x 0)) (bytes_take (code_end m a) m.bytes h (a + x)))

bytes_set : (m : List ℕ) (a v : ℕ) → v < 256 → Bytes m → Bytes (set m a v)
bytes_set m a v b h x = go (ℕ_discrete a x) (dec_lt x (length m))
  where
    go : Dec (a ≡ x) → Dec (x < length m) → get_or (set m a v) x 0 < 256
    go _ (no q) = subst (λ (y : ℕ). y < 256) (sym (get_or-eq_default (set m a v) 0 (omega (arith, length-set m a v)))) (omega arith)
    go (yes e) (yes q) = subst (λ (y : ℕ). get_or (set m a v) y 0 < 256) e (subst (λ (y : ℕ). y < 256) (sym (get_or-set_same m a v 0 (omega arith))) b)
    go (no e) (yes q) = subst (λ (y : ℕ). y < 256) (sym (get_or-set_other m a x v 0 (λ z. e (sym z)))) (h x)

bytes_placed : (k : ℕ) (m : List ℕ) (a v : ℕ) → Bytes m → Bytes (placed k m a v)
unfolding placed
bytes_placed zero m a v h = h
bytes_placed (suc k) m a v h = bytes_placed k (set m a (v % 256)) (a + 1) (v / 256) (bytes_set m a (v % 256) (mod-lt v (omega arith)) h)

pub bytes_stored : (x : Executed) (m : Memory) → Bytes m.bytes → Bytes (new_memory x m).bytes
unfolding new_memory store
bytes_stored x m h = go (stores x.instruction) (inside m (access_address x))
  where
    go : (b c : Bool) → Bytes (cond b (cond c (holding m (placed 8 m.bytes (access_address x) (stored_word x))) m) m).bytes
    go false c = h
    go true false = h
    go true true = bytes_placed 8 m.bytes (access_address x) (stored_word x) h

-- A FETCHED INSTRUCTION is not refused
stopping_fits : (a : ℕ) (x : Status) (y : Option Fault) → instruction_refused (stopping a x y) ≡ false
unfolding instruction_refused stopping row_of table is
stopping_fits a x y = refl

half_fits : (named : Bool) (x : ℕ) → x < 16 → ltb 15 (half named x) ≡ false
unfolding half
half_fits true x h = le-ltb 15 x (omega arith)
half_fits false x h = refl

and_false : (b : Bool) → b && false ≡ false
and_false true = refl
and_false false = refl

fits : (i : Instruction) → ltb 15 i.ra ≡ false → ltb 15 i.rb ≡ false → leb (row_of i.code).functions i.function ≡ false
    → instruction_refused i ≡ false
unfolding instruction_refused
fits i a b f =
    cc (
      ne_eqb (row_of i.code).functions 0 (λ e. omega (arith, leb-false (row_of i.code).functions i.function f)),
      and_false (is cmov i || (is jump i || is operation i)),
    )

fetch_fits : (m : Memory) (a : ℕ) → Bytes m.bytes → instruction_refused (fetch m a) ≡ false
unfolding fetch parsed
fetch_fits m a h =
    checked_any (λ i. instruction_refused i ≡ false) _ _ _ _ _ _ (stopping_fits a)
    (λ n. fits _ (half_fits _ _ ((div-lt_iff_lt-mul (omega arith)).1 (omega (arith, bytes_own m a h 1))))
    (half_fits _ _ (mod-lt (get_or (own_bytes m a) 1 0) (omega arith))) n)

-- A CLOCK passes on what it holds
cond_any : {A : Type 0} (P : A → Type 0) (b : Bool) (x y : A) → P x → P y → P (cond b x y)
cond_any P true x y h k = h
cond_any P false x y h k = k

decoded_fits : (g : Core) (p : Piped) (d : StageD) → refused_in_d d ≡ false → refused_in_e (decoded_d g p d) ≡ false
unfolding decoded_d decode refused_in_d refused_in_e
decoded_fits g p bubble_d h = refl
decoded_fits g p (in_d i) h = h

handed_fits : (g : Core) (w : StageW) (e : StageE) → refused_in_e e ≡ false → refused_in_e (handed g w e) ≡ false
unfolding handed refused_in_e
handed_fits g w bubble_e h = refl
handed_fits g w (in_e x) h = h

executed_fits : (p : Piped) (e : StageE) → refused_in_e e ≡ false → refused_in_m (after_e e p.pipeline.codes) ≡ false
unfolding after_e execute refused_in_e refused_in_m
executed_fits p bubble_e h = refl
executed_fits p (in_e x) h = h

accessed_fits : (p : Piped) (m : StageM) → refused_in_m m ≡ false → refused_in_w (after_m m p.memory) ≡ false
unfolding after_m access refused_in_m refused_in_w
accessed_fits p bubble_m h = refl
accessed_fits p (in_m x) h = h

kept_fits : (w : StageW) (k : Kept) → refused_in_w w ≡ false → refused_kept k ≡ false → refused_kept (kept_after w k) ≡ false
unfolding kept_after retired_of refused_in_w refused_kept
kept_fits bubble_w k h l = l
kept_fits (in_w w) k h l = h

size_after : (m : StageM) (y : Memory) → size (memory_after m y) ≡ size y
unfolding memory_after
size_after bubble_m y = refl
size_after (in_m x) y = size_new_memory x y

bytes_after : (m : StageM) (y : Memory) → Bytes y.bytes → Bytes (memory_after m y).bytes
unfolding memory_after
bytes_after bubble_m y h = h
bytes_after (in_m x) y h = bytes_stored x y h

record Fits (p : Piped) : Type 0 where
  bytes : Bytes p.memory.bytes
  in_d' : refused_in_d p.pipeline.d ≡ false
  in_e' : refused_in_e p.pipeline.e ≡ false
  in_m' : refused_in_m p.pipeline.m ≡ false
  in_w' : refused_in_w p.pipeline.w ≡ false
  kept : refused_kept p.pipeline.kept ≡ false
  set : settings_refused p.pipeline.settings ≡ false

module _ (g : Core) (p : Piped) (h : Fits p) where
  fits_advanced : Fits (advanced g p)
  unfolding advanced next_d next_e next_m fetched_now executing refused_in_d refused_in_e refused_in_m
  fits_advanced =
      record {
        bytes = bytes_after p.pipeline.m p.memory h.bytes;
        in_d' =
            cond_any (λ d. refused_in_d d ≡ false) (cancels p || mispredicts g p) _ _ refl
            (cond_any (λ d. refused_in_d d ≡ false) (waits g p) _ _ h.in_d'
            (cond_any (λ d. refused_in_d d ≡ false) (returns p) _ _ refl (fetch_fits p.memory (fetch_address g p) h.bytes)));
        in_e' = cond_any (λ e. refused_in_e e ≡ false) (cancels p || (mispredicts g p || waits g p)) _ _ refl (decoded_fits g p p.pipeline.d h.in_d');
        in_m' =
            cond_any (λ m. refused_in_m m ≡ false) (cancels p || fails p) _ _ refl
            (executed_fits p (executing g p) (handed_fits g (after_m p.pipeline.m p.memory) p.pipeline.e h.in_e'));
        in_w' = accessed_fits p p.pipeline.m h.in_m';
        kept = kept_fits p.pipeline.w p.pipeline.kept h.in_w' h.kept;
        set = h.set;
      }

  fits_stopped : (w : Accessed) → Fits (stopped_in g p w)
  unfolding stopped_in
  fits_stopped w = record { bytes = h.bytes; in_d' = h.in_d'; in_e' = h.in_e'; in_m' = h.in_m'; in_w' = h.in_w'; kept = h.kept; set = h.set }

-- an answer 0: the first two tests failed
tests_failed : (a b : Bool) (x : ℕ) → cond a 1 (cond b 3 x) ≡ 0 → (a ≡ false) × (b ≡ false)
tests_failed true b x h = absurd (omega arith)
tests_failed false true x h = absurd (omega arith)
tests_failed false false x h = (refl, refl)

-- and so did the last
last_failed : (a b c d : Bool) → ◌≡◌ {A = ℕ} (cond a 1 (cond b 3 (cond c 4 (cond d 5 0)))) 0 → d ≡ false
last_failed true b c d h = absurd (omega arith)
last_failed false true c d h = absurd (omega arith)
last_failed false false true d h = absurd (omega arith)
last_failed false false false true h = absurd (omega arith)
last_failed false false false false h = refl

-- of a run that is not refused the record's contents and its window are not
contents_fit : (k : Pipeline) (size budget : ℕ) (logs : List ℕ) → pipe_refusal k size budget logs ≡ 0
    → (record_refused k ≡ false) × (window_refused k.settings.window size ≡ false)
unfolding pipe_refusal lowest
contents_fit k size budget logs h =
    neither (record_refused k) (window_refused k.settings.window size)
    (last_failed (size_refused size) (budget_refused pipe_limit k.cycles budget) (log_refused logs budget) (record_refused k || window_refused k.settings.window size) h)

-- a record that is not refused has one of the rules
pub settings_known : (k : Pipeline) (size budget : ℕ) (logs : List ℕ) → pipe_refusal k size budget logs ≡ 0 → settings_refused k.settings ≡ false
unfolding pipe_refusal lowest record_refused
settings_known k size budget logs h =
    (neither (settings_refused k.settings) _ (contents_fit k size budget logs h).0).0

-- THE COUNTS
counts_fit : (p : Piped) → p.pipeline.retired + total p.pipeline.kinds ≤ p.pipeline.cycles → counts_refused p.pipeline ≡ false
unfolding counts_refused total
counts_fit p h =
    cc (
      le-ltb p.pipeline.cycles p.pipeline.retired (omega arith),
      le-ltb p.pipeline.cycles p.pipeline.kinds.loaduse (omega arith),
      le-ltb p.pipeline.cycles p.pipeline.kinds.mispredict (omega arith),
      le-ltb p.pipeline.cycles p.pipeline.kinds.returned (omega arith),
      le-ltb p.pipeline.cycles p.pipeline.kinds.patched (omega arith),
    )

module _ (g : Core) (t : Start) (h : Bytes t.memory.bytes) (known : settings_refused t.settings ≡ false) where
  fits_clocks : (c : ℕ) → Fits (clocks g (piped_from t) c)
  unfolding clocks piped_from pipe_start refused_in_d refused_in_e refused_in_m refused_in_w refused_kept
  fits_clocks zero = record { bytes = h; in_d' = refl; in_e' = refl; in_m' = refl; in_w' = refl; kept = refl; set = known }
  fits_clocks (suc c) =
      let k = fits_clocks c in
      clock_any g (clocks g (piped_from t) c) Fits k (fits_advanced g (clocks g (piped_from t) c) k) (fits_stopped g (clocks g (piped_from t) c) k)

  pub never_refused : (c : ℕ) → record_refused (clocks g (piped_from t) c).pipeline ≡ false
  unfolding record_refused
  never_refused c =
      let k = fits_clocks c in
      cc (counts_fit (clocks g (piped_from t) c) (counts_within g t c))

  -- its window is the one it was started with
  window_stays : (c : ℕ) → (clocks g (piped_from t) c).pipeline.settings.window ≡ t.settings.window
  unfolding piped_from pipe_start
  window_stays c = ap (λ s. s.window) (clocks_keep g (piped_from t) c)

  -- so whoever gives it a size that the window fits, a budget and logs that fit is not refused
  pub continues : (c size budget : ℕ) (logs : List ℕ) → window_refused t.settings.window size ≡ false → size_refused size ≡ false
      → budget_refused pipe_limit (clocks g (piped_from t) c).pipeline.cycles budget ≡ false
      → log_refused logs budget ≡ false → pipe_refusal (clocks g (piped_from t) c).pipeline size budget logs ≡ 0
  unfolding pipe_refusal lowest
  continues c size budget logs w a b d = cc (never_refused c, window_stays c)

  -- CLOCK BY CLOCK: memory keeps its size, and a clock counts one cycle at most
  record Within (p : Piped) (c : ℕ) : Type 0 where
    sized : size p.memory ≡ size t.memory
    cycles : p.pipeline.cycles ≤ c

  within_clock : (p : Piped) (c : ℕ) → Within p c → Within (clock g p) (suc c)
  unfolding advanced stopped_in
  within_clock p c k =
      clock_any g p (λ q. Within q (suc c)) (record { sized = k.sized; cycles = omega (arith, k.cycles) })
      (record { sized = size_after p.pipeline.m p.memory ∙ k.sized; cycles = omega (arith, k.cycles) })
      (λ w. record { sized = k.sized; cycles = omega (arith, k.cycles) })

  within_clocks : (c : ℕ) → Within (clocks g (piped_from t) c) c
  unfolding clocks piped_from pipe_start
  within_clocks zero = record { sized = refl; cycles = omega arith }
  within_clocks (suc c) = within_clock (clocks g (piped_from t) c) c (within_clocks c)

  -- so where a run of n is not refused, neither is a shorter one, nor any of n clocks made one by one
  module _ (n : ℕ) (r : pipe_refusal (piped_from t).pipeline (size t.memory) n [] ≡ 0) where
    fitting : window_refused t.settings.window (size t.memory) ≡ false
    unfolding piped_from pipe_start
    fitting = (contents_fit (piped_from t).pipeline (size t.memory) n [] r).1

    in_limit : (size_refused (size t.memory) ≡ false) × (n ≤ pipe_limit)
    unfolding pipe_refusal lowest budget_refused piped_from pipe_start
    in_limit =
        let later : ℕ = cond (log_refused [] n) 4 (cond (record_refused (piped_from t).pipeline || window_refused t.settings.window (size t.memory)) 5 0) in
        let f = tests_failed (size_refused (size t.memory)) (budget_refused pipe_limit 0 n) later r in
        (f.0, omega (arith, ltb-false pipe_limit (0 + n) (neither (eqb n 0) (ltb pipe_limit (0 + n)) f.1).1))

    pub shorter : (i : ℕ) → suc i ≤ n → pipe_refusal (piped_from t).pipeline (size t.memory) (suc i) [] ≡ 0
    unfolding budget_refused log_refused clocks piped_from pipe_start
    shorter i h =
        let below : ltb pipe_limit (0 + suc i) ≡ false = le-ltb pipe_limit (0 + suc i) (omega (arith, in_limit.1)) in
        continues 0 (size t.memory) (suc i) [] fitting in_limit.0 (cc (eqb-suc-zero i)) refl

    pub each_clock : (i : ℕ) → i < n → let p = clocks g (piped_from t) i in pipe_refusal p.pipeline (size p.memory) 1 [] ≡ 0
    unfolding budget_refused log_refused
    each_clock i h =
        let k = within_clocks i in
        let c = (clocks g (piped_from t) i).pipeline.cycles in
        continues i _ 1 [] (rw k.sized fitting) (rw k.sized in_limit.0) (le-ltb pipe_limit (c + 1) (omega (arith, in_limit.1, k.cycles))) refl

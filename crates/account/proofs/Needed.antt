-- The weakest premise is needed: the first instruction that is not fetched alike shows in its due cycle, unless both engines fail there at an access.
use Prim.Native.Nat.{ℕ, zero, suc, ◌+◌, ◌-◌, ◌≤◌, ◌<◌}
use Rattle.std.specs.Prelude.{Bool, cond, List, [], ◌∷◌, ◌++◌, ◌⊎◌, ◌≡◌, eqb, length}
use Rattle.std.proofs.Math.Bool.{true, false, true≢false}
use Rattle.std.proofs.Common.{append-nil, inl, inr, ◌∙◌, subst}
use Rattle.std.proofs.Math.Path.{refl, ap, sym}
use native.Mathlib.Omega.{arith}
use Rattle.std.proofs.Math.Decide.{dec_lt}
use Rattle.account.specs.Names.{Status, aok, hlt, adr, ins, Instruction, Executed, Accessed, Retired, last_kept, StageW, bubble_w, in_w}
use Rattle.account.specs.Names.{Option, Fault, no_fault, faulty, first_missing, no_code, no_function, later_missing, no_register, Blame}
use Rattle.machine.specs.Types.{is_bad}
use Rattle.machine.specs.Memory.{Memory}
use Rattle.machine.specs.Stages.{access, access_status, loads, stores, loading, storing}
use Rattle.machine.specs.Table.{is, ret, row_of, table}
use Rattle.machine.specs.Fetch.{fetch, parsed, checked, not_in_table, stopping, blame_of}
use Rattle.machine.specs.Plain.{Plain, is_stopped, fetched, executed, accessed, stopped_by, step, steps}
use Rattle.clocked.specs.Prediction.{Core, load_use}
use Rattle.clocked.specs.Charges.{retired_of, charges, due, due_cycles}
use Rattle.clocked.specs.Pipeline.{Piped, bad_in_w, fails, fetch_address, fetched_now, logged, retired_after, advanced, stopped_in, clock, clocks}
use Rattle.account.specs.Statement.{Start, plain_from, piped_from, DueBy, kept_of, Agrees}
use Rattle.account.specs.Seen.{wait, fetch_cycle, due_among, seen, FetchedAlike, Seen}
use Rattle.account.proofs.Laws
use Rattle.account.proofs.Laws.{bit, wrong_at, patches_at}
use Rattle.account.proofs.Relation.{Sees}
use Rattle.account.proofs.Sight.{runs_before, alike_at, fetch_due, sees_number, sees_only}
use Rattle.clock_laws.specs.Stops.{clock_still}
use Rattle.account.proofs.Retirement.{clock_bubble, clock_retires, clock_stops, books_retires, books_stops}
use Rattle.account.proofs.Reach.{no_return, no_wrong, no_patch}
use Rattle.account.proofs.Uses.{due_only, due_in_lem, on_time, not_earlier}
use Rattle.account.proofs.Midrun.{in_mid_run}
use Rattle.account.proofs.Own.{settled}
use Rattle.account.proofs.Back.{Ran, ran, retires, stopping_in, access_status_lem, status_back, fetched_behind, fetched_waiting}
use Rattle.account.specs.Needed.{FailedAccess}

-- TWO CLOCKS: if one instruction has retired in the two, and is logged in the second, then in the second
last_of : ℕ → List ℕ → ℕ
last_of d [] = d
last_of d (x ∷ xs) = last_of x xs

last_end : (d : ℕ) (xs : List ℕ) (y : ℕ) → last_of d (xs ++ y ∷ []) ≡ y
unfolding last_of
last_end d [] y = refl
last_end d (x ∷ xs) y = last_end x xs y

module _ (g : Core) (p : Piped) where
  rests_on : p.pipeline.w ≡ bubble_w → ((advanced g p).pipeline.retired ≡ p.pipeline.retired) × ((advanced g p).cycle_log ≡ p.cycle_log)
  unfolding advanced retired_after logged
  rests_on h = (cc, cc (append-nil p.cycle_log))

module _ (g : Core) (p : Piped) (r : is_bad p.pipeline.status ≡ false) (n : (clock g (clock g p)).pipeline.retired ≡ p.pipeline.retired + 1)
    (y : (clock g (clock g p)).cycle_log ≡ p.cycle_log ++ (p.pipeline.cycles + 2) ∷ []) where
  not_first : (q : Piped) → q.cycle_log ≡ p.cycle_log ++ (p.pipeline.cycles + 1) ∷ [] → (clock g (clock g p)).cycle_log ≡ q.cycle_log → ⊥
  not_first q h e =
      omega (
        arith,
        sym (last_end 0 p.cycle_log (p.pipeline.cycles + 1)) ∙ (ap (last_of 0) (sym h ∙ (sym e ∙ y)) ∙ last_end 0 p.cycle_log (p.pipeline.cycles + 2)),
      )

  in_second : (is_bad (clock g p).pipeline.status ≡ false) × ((clock g p).pipeline.retired ≡ p.pipeline.retired)
  in_second = go (is_bad (clock g p).pipeline.status) refl
    where
      twice : (v w : Accessed) → p.pipeline.w ≡ in_w v → is_bad (clock g p).pipeline.status ≡ false → (clock g p).pipeline.w ≡ in_w w
          → (b : Bool) → is_bad w.status ≡ b → ⊥
      twice v w e s f true b =
          omega (
            arith,
            ap (λ (q : Piped). q.pipeline.retired) (ran g p s).on,
            (books_retires g p v e).retired,
            ap (λ (q : Piped). q.pipeline.retired) (clock_stops g (clock g p) s w f b),
            (books_stops g (clock g p) w).retired,
          )
      twice v w e s f false b =
          omega (
            arith,
            ap (λ (q : Piped). q.pipeline.retired) (ran g p s).on,
            (books_retires g p v e).retired,
            ap (λ (q : Piped). q.pipeline.retired) (clock_retires g (clock g p) s w f b),
            (books_retires g (clock g p) w f).retired,
          )

      second : (v : Accessed) → p.pipeline.w ≡ in_w v → is_bad (clock g p).pipeline.status ≡ false → (w : StageW) → (clock g p).pipeline.w ≡ w → ⊥
      second v e s bubble_w f =
          not_first (clock g p) (ap (λ (q : Piped). q.cycle_log) (ran g p s).on ∙ (books_retires g p v e).cycles)
          (ap (λ (q : Piped). q.cycle_log) (clock_bubble g (clock g p) s f) ∙ (rests_on g (clock g p) f).1)
      second v e s (in_w w) f = twice v w e s f (is_bad w.status) refl

      first : is_bad (clock g p).pipeline.status ≡ false → (v : StageW) → p.pipeline.w ≡ v → (clock g p).pipeline.retired ≡ p.pipeline.retired
      first s bubble_w e = ap (λ (q : Piped). q.pipeline.retired) (ran g p s).on ∙ (rests_on g p e).0
      first s (in_w v) e = absurd (second v e s (clock g p).pipeline.w refl)

      go : (b : Bool) → is_bad (clock g p).pipeline.status ≡ b
          → (is_bad (clock g p).pipeline.status ≡ false) × ((clock g p).pipeline.retired ≡ p.pipeline.retired)
      go true s =
          let w = stopping_in g p r s in
          absurd
          (not_first (clock g p) (ap (λ (q : Piped). q.cycle_log) w.2 ∙ (books_stops g p w.0).cycles)
          (ap (λ (q : Piped). q.cycle_log) (clock_still g (clock g p) s)))
      go false s = (s, first s p.pipeline.w refl)

-- what is kept tells the instruction
kept_same : (x y : Retired) → last_kept x ≡ last_kept y → x ≡ y
kept_same x y h = cc

kept_instruction : (x y : Accessed) → last_kept (retired_of x) ≡ last_kept (retired_of y) → x.instruction ≡ y.instruction
unfolding retired_of
kept_instruction x y h = ap (λ (r : Retired). r.instruction) (kept_same (retired_of x) (retired_of y) h)

-- FETCH
-- the status of a bad fetch, by its reason; without one it is a halt
bad_by : Option Fault → Status
bad_by no_fault = hlt
bad_by (faulty first_missing) = adr
bad_by (faulty no_code) = ins
bad_by (faulty no_function) = ins
bad_by (faulty later_missing) = adr
bad_by (faulty no_register) = ins

-- what is fetched at a is performed, or it is settled by its reason
data Outcome (a : ℕ) (i : Instruction) : Type 0 where
  performs : i.address ≡ a → i.status ≡ aok → i.fault ≡ no_fault → Outcome a i
  stops : (y : Option Fault) → i ≡ stopping a (bad_by y) y → Outcome a i

not_in_table_lem : (code : ℕ) → bad_by (not_in_table code) ≡ ins
unfolding not_in_table bad_by
not_in_table_lem code = go (eqb (row_of code).functions 0)
  where
    go : (b : Bool) → bad_by (cond b (faulty no_code) (faulty no_function)) ≡ ins
    go true = refl
    go false = refl

outcome_checked : (f n l r h : Bool) (i : Instruction) → i.status ≡ aok → i.fault ≡ no_fault → Outcome i.address (checked f n l r h i)
unfolding checked bad_by
outcome_checked true n l r h i s k = stops (faulty first_missing) refl
outcome_checked false true l r h i s k =
    stops (not_in_table i.code) (ap (λ (x : Status). stopping i.address x (not_in_table i.code)) (sym (not_in_table_lem i.code)))
outcome_checked false false true r h i s k = stops (faulty later_missing) refl
outcome_checked false false false true h i s k = stops (faulty no_register) refl
outcome_checked false false false false true i s k = stops no_fault refl
outcome_checked false false false false false i s k = performs refl s k

fetch_outcome : (m : Memory) (a : ℕ) → Outcome a (fetch m a)
unfolding fetch parsed
fetch_outcome m a = outcome_checked _ _ _ _ _ _ refl refl

fetch_at : (m : Memory) (a : ℕ) → (fetch m a).address ≡ a
unfolding stopping
fetch_at m a = go (fetch_outcome m a)
  where
    go : Outcome a (fetch m a) → (fetch m a).address ≡ a
    go (performs h _ _) = h
    go (stops y e) = ap (λ (i : Instruction). i.address) e

-- a nop does not fail at its access
nop_status : (x : Executed) (m : Memory) → x.instruction.code ≡ 1 → (access x m).status ≡ x.instruction.status
unfolding access access_status loads stores loading storing row_of table
nop_status x m h = rw h

-- behind a return, a wrong guess and a store into the window every fetch is alike
module _ (g : Core) (s : Plain) (k : ℕ) (r : is_stopped (steps s (suc k)) ≡ false) where
  behind_return : is ret (fetched (steps s k)) ≡ true → FetchedAlike g s (suc k)
  behind_return y = alike_at g s (suc k) r (λ j lo d x w b. true≢false (sym y ∙ no_return g s j (suc k) lo d k (omega arith) (omega arith)))

  behind_wrong : wrong_at g (steps s k) ≡ true → FetchedAlike g s (suc k)
  behind_wrong y = alike_at g s (suc k) r (λ j lo d x w b. true≢false (sym y ∙ no_wrong g s j (suc k) lo d x w k (omega arith) (omega arith)))

  behind_patch : patches_at (steps s k) ≡ true → FetchedAlike g s (suc k)
  behind_patch y = alike_at g s (suc k) r (λ j lo d x w b. true≢false (sym y ∙ no_patch g s j (suc k) lo d k (omega arith) (omega arith)))

pub failed? : (s : Plain) → Dec (FailedAccess s)
failed? s = go s.machine.status s.machine.blame.fault refl refl
  where
    by : (y : Option Fault) → s.machine.status ≡ adr → s.machine.blame.fault ≡ y → Dec (FailedAccess s)
    by no_fault e f = yes (e, f)
    by (faulty first_missing) e f = no (λ z. true≢false (cc z.1))
    by (faulty no_code) e f = no (λ z. true≢false (cc z.1))
    by (faulty no_function) e f = no (λ z. true≢false (cc z.1))
    by (faulty later_missing) e f = no (λ z. true≢false (cc z.1))
    by (faulty no_register) e f = no (λ z. true≢false (cc z.1))

    go : (x : Status) (y : Option Fault) → s.machine.status ≡ x → s.machine.blame.fault ≡ y → Dec (FailedAccess s)
    go aok y e f = no (λ z. true≢false (cc z.0))
    go hlt y e f = no (λ z. true≢false (cc z.0))
    go adr y e f = by y e f
    go ins y e f = no (λ z. true≢false (cc z.0))

-- a stop stays
pub stop_stays : (s : Plain) → is_stopped s ≡ true → step s ≡ s
unfolding step
stop_stays s h = cc

pub failed_stays : (s : Plain) (d j n : ℕ) → d + j ≡ n → FailedAccess (steps s j) → FailedAccess (steps s n)
unfolding steps is_stopped is_bad
failed_stays s zero j n e h =
    let q : j ≡ n = omega arith in
    rw (← q) h
failed_stays s (suc d) j n e h = failed_stays s d (suc j) n (omega arith) (rw (stop_stays (steps s j) (ap is_bad h.0)) h)

module _ (g : Core) (t : Start) where
  abbrev plain : Plain
  plain = plain_from t

  abbrev piped : ℕ → Piped
  piped c = clocks g (piped_from t) c

  ran_at : (c : ℕ) → is_bad (piped (suc c)).pipeline.status ≡ false → Ran g (piped c) (piped (suc c))
  unfolding clocks
  ran_at c h = ran g (piped c) h

  unfailing : {p q : Piped} → Ran g p q → bad_in_w q.pipeline.w ≡ false → fails p ≡ false
  unfolding fails advanced
  unfailing r h = sym (ap (λ (q : Piped). bad_in_w q.pipeline.w) r.on) ∙ h

  module _ (l : length t.registers ≡ 15) (k : ℕ) (u : Seen g plain (suc k)) (r : is_stopped (steps plain (suc k)) ≡ false) where
    runs_k : is_stopped (steps plain k) ≡ false
    runs_k = runs_before plain 1 k (suc k) (omega arith) r

    -- what was fetched after e clocks was fetched from the memory that the premise speaks of
    seen_then : (e : ℕ) → due g plain (suc k) ≡ e + 4 → due g plain (suc (suc k)) ≡ e + 5 + wait g plain (suc (suc k))
        → fetched_now g (piped e) ≡ fetched (steps plain (suc k))
        → FetchedAlike g plain (suc k)
    unfolding seen fetched_now
    seen_then e d f h =
        let x = in_mid_run g t l k u e (omega arith) in
        let y = x.2.stores in
        let lo : x.0 ≤ suc k = least x.0 y in
        let v : Sees g plain (e + 1) x.0 (suc k)
        = record { lo = lo; older = y.arrived; later = λ q. y.awaited (runs_before plain (suc k - x.0) x.0 (suc k) (omega arith) r) } in
        let c : fetch_cycle g plain (suc (suc k)) ≡ e + 1 = omega (arith, fetch_due g plain (suc k)) in
        let j : due_among g plain (fetch_cycle g plain (suc (suc k))) (suc k) ≡ x.0
        = ap (λ (d : ℕ). due_among g plain d (suc k)) c ∙ sees_only g plain (sees_number g plain (e + 1) (suc k)) v in
        let a : fetch_address g (piped e) ≡ (steps plain (suc k)).machine.address
        = sym (fetch_at (piped e).memory (fetch_address g (piped e)))
        ∙ (ap (λ (i : Instruction). i.address) h ∙ Laws.fetched_address (steps plain (suc k))) in
        cc x.2.memory
      where
        least : (a : ℕ) → DueBy g plain (e + 1) a → a ≤ suc k
        least a y = go (dec_lt (suc k) a)
          where
            go : Dec (suc k < a) → a ≤ suc k
            go (yes q) = absurd (omega (arith, y.arrived (suc k) q))
            go (no q) = omega arith

    module _ (bad : FailedAccess (steps plain (suc (suc k))) → ⊥) where
      -- an instruction that stands for the plain engine's: any fetch of it is a fetch of that
      Same : Accessed → Type 0
      Same y = (m : Memory) (a : ℕ) → fetch m a ≡ y.instruction → fetch m a ≡ fetched (steps plain (suc k))

      stops_by : is_stopped (steps plain (suc (suc k))) ≡ true → steps plain (suc (suc k)) ≡ stopped_by (steps plain (suc k)) (accessed (steps plain (suc k))).status
      unfolding steps
      stops_by h = Laws.step_stopped (steps plain (suc k)) r (sym (Laws.step_stops (steps plain (suc k)) r) ∙ h)

      -- so the plain engine stops with what it fetched
      stops_as : is_stopped (steps plain (suc (suc k))) ≡ true
          → (y : Option Fault) × (fetched (steps plain (suc k)) ≡ stopping (steps plain (suc k)).machine.address (bad_by y) y)
          × ((steps plain (suc (suc k))).machine.status ≡ bad_by y)
      unfolding fetched accessed stopped_by stopping blame_of is_stopped is_bad
      stops_as h = go (fetch_outcome s.memory s.machine.address)
        where
          s : Plain
          s = steps plain (suc k)

          status : (steps plain (suc (suc k))).machine.status ≡ (accessed s).status
          status = ap (λ (q : Plain). q.machine.status) (stops_by h)

          blame : (steps plain (suc (suc k))).machine.blame.fault ≡ (fetched s).fault
          blame = ap (λ (q : Plain). q.machine.blame.fault) (stops_by h)

          failed : (fetched s).status ≡ aok → ((accessed s).status ≡ adr) ⊎ ((accessed s).status ≡ (executed s).instruction.status) → (accessed s).status ≡ adr
          failed e (inl z) = z
          failed e (inr z) = absurd (true≢false (sym h ∙ ap is_bad (status ∙ (z ∙ (ap (λ (i : Instruction). i.status) (Laws.in_executed s) ∙ e)))))

          go : Outcome s.machine.address (fetched s)
              → (y : Option Fault) × (fetched s ≡ stopping s.machine.address (bad_by y) y) × ((steps plain (suc (suc k))).machine.status ≡ bad_by y)
          go (performs _ e f) = absurd (bad (status ∙ failed e (access_status_lem (executed s) s.memory), blame ∙ f))
          go (stops y e) =
              let at = Laws.in_executed s in
              let nop = nop_status (executed s) s.memory (ap (λ (i : Instruction). i.code) (at ∙ e)) in
              (y, e, status ∙ (nop ∙ ap (λ (i : Instruction). i.status) (at ∙ e)))

      -- what retires in the clock in which instruction k + 2 is due
      module _ (c : ℕ) (before : Ran g (piped c) (piped (suc c))) (on : is_bad (piped (suc c)).pipeline.status ≡ false)
          (a : Agrees g plain (piped (suc (suc c))) (suc (suc c)) (suc (suc k)))
          (n : (piped (suc (suc c))).pipeline.retired ≡ (piped (suc c)).pipeline.retired + 1) where
        retiree_runs : is_bad (piped (suc (suc c))).pipeline.status ≡ false → (y : Accessed) × ((piped (suc c)).pipeline.w ≡ in_w y) × Same y
        unfolding kept_of Same
        retiree_runs h =
            let q = ran_at (suc c) h in
            let w = retires g (piped (suc c)) (sym (ap (λ (q : Piped). q.pipeline.retired) q.on) ∙ n) in
            let same = sym w.2 ∙ (sym (ap (λ (q : Piped). q.pipeline.kept) q.on) ∙ a.kept h) in
            let here = kept_instruction w.0 (accessed (steps plain (suc k))) same in
            (w.0, w.1, λ m a e. e ∙ (here ∙ Laws.in_accessed (steps plain (suc k))))

        retiree_stops : is_stopped (steps plain (suc (suc k))) ≡ true → (y : Accessed) × ((piped (suc c)).pipeline.w ≡ in_w y) × Same y
        unfolding is_stopped steps clocks stopped_in stopped_by blame_of stopping bad_by Same
        retiree_stops h =
            let w = stopping_in g (piped (suc c)) on (ap is_bad a.status ∙ h) in
            let status : w.0.status ≡ (steps plain (suc (suc k))).machine.status
            = sym (ap (λ (q : Piped). q.pipeline.status) w.2) ∙ a.status in
            let address : w.0.instruction.address ≡ (steps plain (suc k)).machine.address
            = sym (ap (λ (q : Piped). q.pipeline.last) w.2) ∙ (a.last ∙ (Laws.step_logs (steps plain (suc k)) r).last) in
            let fault : w.0.instruction.fault ≡ (fetched (steps plain (suc k))).fault
            = sym (ap (λ (q : Piped). q.pipeline.blame.fault) w.2)
            ∙ (ap (λ (b : Blame). b.fault) a.blame ∙ ap (λ (q : Plain). q.machine.blame.fault) (stops_by h)) in
            let kept = status_back g (piped c) w.0 (sym (ap (λ (q : Piped). q.pipeline.w) before.on) ∙ w.1) in
            (w.0, w.1, λ m b e. same w.0 address fault status kept (stops_as h) m b e (fetch_outcome m b))
          where
            -- the reasons are the same; and a halt is not what is performed
            same : (y : Accessed) → y.instruction.address ≡ (steps plain (suc k)).machine.address
                → y.instruction.fault ≡ (fetched (steps plain (suc k))).fault → y.status ≡ (steps plain (suc (suc k))).machine.status
                → (y.status ≡ adr) ⊎ (y.status ≡ y.instruction.status)
                → (z : Option Fault) × (fetched (steps plain (suc k)) ≡ stopping (steps plain (suc k)).machine.address (bad_by z) z)
                × ((steps plain (suc (suc k))).machine.status ≡ bad_by z)
                → (m : Memory) (b : ℕ) → fetch m b ≡ y.instruction → Outcome b (fetch m b) → fetch m b ≡ fetched (steps plain (suc k))
            same y address fault status kept z m b e (stops x q) =
                let here : b ≡ (steps plain (suc k)).machine.address = sym (fetch_at m b) ∙ (ap (λ (i : Instruction). i.address) e ∙ address) in
                let one : x ≡ z.0
                = sym (ap (λ (i : Instruction). i.fault) q) ∙ (ap (λ (i : Instruction). i.fault) e ∙ (fault ∙ ap (λ (i : Instruction). i.fault) z.1)) in
                q ∙ (ap (λ (v : ℕ). stopping v (bad_by x) x) here
                ∙ (ap (λ (v : Option Fault). stopping (steps plain (suc k)).machine.address (bad_by v) v) one ∙ sym z.1))
            same y address fault status kept z m b e (performs _ q f) =
                let none : z.0 ≡ no_fault
                = sym (ap (λ (i : Instruction). i.fault) z.1) ∙ (sym fault ∙ (sym (ap (λ (i : Instruction). i.fault) e) ∙ f)) in
                let halt : y.status ≡ hlt = status ∙ (z.2 ∙ ap bad_by none) in
                absurd (clash halt (sym (ap (λ (i : Instruction). i.status) e) ∙ q) kept)
              where
                clash : y.status ≡ hlt → y.instruction.status ≡ aok → (y.status ≡ adr) ⊎ (y.status ≡ y.instruction.status) → ⊥
                clash h o (inl v) = true≢false (cc)
                clash h o (inr v) = true≢false (cc)

        retiree : (y : Accessed) × ((piped (suc c)).pipeline.w ≡ in_w y) × Same y
        unfolding is_stopped
        retiree = go (is_stopped (steps plain (suc (suc k)))) refl
          where
            go : (b : Bool) → is_stopped (steps plain (suc (suc k))) ≡ b → (y : Accessed) × ((piped (suc c)).pipeline.w ≡ in_w y) × Same y
            go true h = retiree_stops h
            go false h = retiree_runs (ap is_bad a.status ∙ h)

      module _ (e : ℕ) (d : due g plain (suc k) ≡ suc (suc (suc (suc e)))) where
        third : Agrees g plain (piped (suc (suc (suc e)))) (suc (suc (suc e))) k
        third = not_earlier g t l k u runs_k (suc (suc (suc e))) (sym d)

        fourth : Agrees g plain (piped (suc (suc (suc (suc e))))) (suc (suc (suc (suc e)))) (suc k)
        fourth = subst (λ (c : ℕ). Agrees g plain (piped c) c (suc k)) d (on_time g t l k u runs_k)

        on4 : is_bad (piped (suc (suc (suc (suc e))))).pipeline.status ≡ false
        unfolding is_stopped
        on4 = ap is_bad fourth.status ∙ r

        -- it comes right behind its predecessor
        from_fifth : Agrees g plain (piped (suc (suc (suc (suc (suc e)))))) (suc (suc (suc (suc (suc e))))) (suc (suc k))
            → fetched_now g (piped e) ≡ fetched (steps plain (suc k))
        unfolding Same fetched_now
        from_fifth a =
            let r3 = ran_at (suc (suc (suc e))) on4 in
            let r2 = ran_at (suc (suc e)) r3.before in
            let r1 = ran_at (suc e) r2.before in
            let r0 = ran_at e r1.before in
            let y = retiree (suc (suc (suc e))) r3 on4 a (omega (arith, a.retired, fourth.retired)) in
            y.2 _ _ (fetched_behind g _ _ _ _ _ r0.on r1.on r2.on r3.on y.0 y.1 (omega (arith, fourth.retired, third.retired)))

        -- it waits for the load of its predecessor
        from_sixth : is ret (fetched (steps plain k)) ≡ false → patches_at (steps plain k) ≡ false
            → due g plain (suc (suc k)) ≡ suc (suc (suc (suc (suc (suc e)))))
            → Agrees g plain (piped (suc (suc (suc (suc (suc (suc e))))))) (suc (suc (suc (suc (suc (suc e)))))) (suc (suc k))
            → fetched_now g (piped e) ≡ fetched (steps plain (suc k))
        unfolding Same fetched_now kept_of retired_of due_cycles clocks patches_at
        from_sixth stays keeps d' a =
            let p4 = piped (suc (suc (suc (suc e)))) in
            let now : due g plain (suc (suc k)) ≡ p4.pipeline.cycles + 2 = omega (arith, fourth.running on4) in
            let z = in_second g p4 on4 (omega (arith, a.retired, fourth.retired)) (cc (a.cycles, fourth.cycles, now)) in
            let r4 = ran_at (suc (suc (suc (suc e)))) z.0 in
            let r3 = ran_at (suc (suc (suc e))) on4 in
            let r2 = ran_at (suc (suc e)) r3.before in
            let r1 = ran_at (suc e) r2.before in
            let r0 = ran_at e r1.before in
            let y = retiree (suc (suc (suc (suc e)))) r4 z.0 a (omega (arith, a.retired, fourth.retired, z.1)) in
            y.2 _ _
            (fetched_waiting g _ _ _ _ _ r0.on r1.on r2.on r3.on
            (settled g t e r0.before r0.sound (unfailing r0 r1.sound)) (unfailing r2 r3.sound)
            (retired_of (accessed (steps plain k))) (fourth.kept on4) (omega (arith, fourth.retired, third.retired))
            (ap (is ret) (Laws.in_accessed (steps plain k)) ∙ stays) keeps
            _ r4.on y.0 y.1 z.1)

      -- behind its predecessor, which is neither a return, nor guessed wrongly, nor a store into the window
      straight : wrong_at g (steps plain k) ≡ false → is ret (fetched (steps plain k)) ≡ false → patches_at (steps plain k) ≡ false
          → Agrees g plain (piped (due g plain (suc (suc k)))) (due g plain (suc (suc k))) (suc (suc k))
          → FetchedAlike g plain (suc k)
      unfolding due bit
      straight right stays keeps a = go (load_use g (fetched (steps plain k)) (fetched (steps plain (suc k)))) refl
        where
          e : ℕ
          e = suc k + charges g plain (suc k)

          d : due g plain (suc k) ≡ suc (suc (suc (suc e)))
          d = omega arith

          go : (b : Bool) → load_use g (fetched (steps plain k)) (fetched (steps plain (suc k))) ≡ b
              → FetchedAlike g plain (suc k)
          go false h =
              let c = Laws.charge_straight g plain k right stays keeps ∙ ap bit h in
              let w = Laws.wait_behind g plain k keeps ∙ ap bit h in
              let f : due g plain (suc (suc k)) ≡ suc (suc (suc (suc (suc e)))) = omega (arith, Laws.due_next g plain k) in
              seen_then e (omega arith) (omega arith)
              (from_fifth e d (subst (λ (c : ℕ). Agrees g plain (piped c) c (suc (suc k))) f a))
          go true h =
              let c = Laws.charge_straight g plain k right stays keeps ∙ ap bit h in
              let w = Laws.wait_behind g plain k keeps ∙ ap bit h in
              let f : due g plain (suc (suc k)) ≡ suc (suc (suc (suc (suc (suc e))))) = omega (arith, Laws.due_next g plain k) in
              seen_then e (omega arith) (omega arith)
              (from_sixth e d stays keeps f (subst (λ (c : ℕ). Agrees g plain (piped c) c (suc (suc k))) f a))

  module _ (l : length t.registers ≡ 15) where
    -- THE PREMISE IS NEEDED. The first n are fetched alike, and instruction n + 1 is performed and does not fail at its access: if the pipeline
    -- agrees in its due cycle, it is fetched alike too.
    pub needed : (n : ℕ) → Seen g plain n → is_stopped (steps plain n) ≡ false → (FailedAccess (steps plain (suc n)) → ⊥)
        → (m : ℕ) → Agrees g plain (piped (due g plain (suc n))) (due g plain (suc n)) m
        → FetchedAlike g plain n
    unfolding seen due_among fetched
    needed zero u r bad m a = refl
    needed (suc k) u r bad m a = go (wrong_at g (steps plain k)) (is ret (fetched (steps plain k))) (patches_at (steps plain k)) refl refl refl
      where
        go : (x y z : Bool) → wrong_at g (steps plain k) ≡ x → is ret (fetched (steps plain k)) ≡ y → patches_at (steps plain k) ≡ z
            → FetchedAlike g plain (suc k)
        go true y z p q o = behind_wrong g plain k r p
        go false true z p q o = behind_return g plain k r q
        go false false true p q o = behind_patch g plain k r o
        go false false false p q o =
            straight l k u r bad p q o
            (subst (λ (z : ℕ). Agrees g plain (piped (due g plain (suc (suc k)))) (due g plain (suc (suc k))) z)
            (due_only g plain _ m (suc (suc k)) a.exactly (due_in_lem g plain (suc k) r)) a)

-- One clock in which nothing stops preserves the relation: one lemma a level, each splitting its own level only.
use Rattle.std.specs.Prelude.{ℕ, suc, ◌+◌, ◌≤◌, ◌<◌, Bool, cond, ◌&&◌, ◌≡◌, length}
use Rattle.std.proofs.Math.Bool.{true, false}
use Rattle.std.proofs.Common.{true≢false, inl, inr, ◌∙◌}
use Rattle.std.proofs.Math.Path.{refl, ap, sym}
use native.Mathlib.Omega.{arith}
use Rattle.std.proofs.Math.Decide.{dec_lt}
use Rattle.account.specs.Names.{Instruction, StageD, bubble_d, in_d, bubble_e, in_e, bubble_m, in_m, bubble_w, in_w}
use Rattle.machine.specs.Memory.{value}
use Rattle.machine.specs.Table.{is, ret}
use Rattle.machine.specs.Fetch.{fetch}
use Rattle.machine.specs.Stages.{decode, source_a, source_b, loaded_target}
use Rattle.machine.specs.Plain.{Plain, is_stopped, fetched, decoded, executed, accessed, steps}
use Rattle.clocked.specs.Prediction.{Core, meets, takes_late, awaited_a}
use Rattle.clocked.specs.Charges.{due}
use Rattle.clocked.specs.Pipeline.{Piped, after_m, handed_a, executing, waits, mispredicts, fails, cancels, returns, ret_in_e, ret_in_m}
use Rattle.clocked.specs.Pipeline.{fetch_address, fetched_now, source, source_m, source_w, past_both, advanced}
use Rattle.clock_laws.specs.Registers.{value_after}
use Rattle.account.proofs.Laws
use Rattle.account.proofs.Laws.{bit, wrong_at, patches_at}
use Rattle.account.proofs.Signals
use Rattle.account.proofs.Signals.{waits_for, loads_into}
use Rattle.account.specs.Seen.{wait}
use Rattle.account.proofs.Relation.{Sees, Known, Beyond, Guessed, AtF, BehindD, AtD, BehindE, AtE, BehindM, AtM, AtW, beyond_f, stop_f}
use Rattle.account.proofs.Relation.{ready_f, goes_d, wrong_d, ret_d, patch_d, beyond_d, stop_d, empty_d, full_d, goes_e, wrong_e, ret_e, patch_e, beyond_e}
use Rattle.account.proofs.Relation.{stop_e, empty_e, full_e, goes_m, ret_m, patch_m, beyond_m, stop_m, empty_m, full_m, beyond_w, empty_w, full_w}

data Fate (g : Core) (s : Plain) (K n : ℕ) : Type 0 where
  beyond : Beyond g s K n → Fate g s K n
  stop : is_stopped (steps s n) ≡ true → Fate g s K n
  known : Known g s K n → Fate g s K n

fate : (g : Core) (s : Plain) (K n : ℕ) → Fate g s K n
fate g s K n = go (dec_lt n K) (is_stopped (steps s n)) refl
  where
    go : Dec (n < K) → (b : Bool) → is_stopped (steps s n) ≡ b → Fate g s K n
    go d true e = stop e
    go (yes h) false e = known (record { runs = e; below = h })
    go (no h) false e = beyond (record { runs = e; above = omega arith })

module _ (g : Core) (s : Plain) (K : ℕ) (p : Piped) (c : ℕ)
    (sight : (j n : ℕ) → Sees g s (c + 1) j n → due g s (suc n) ≡ c + 5 + wait g s (suc n) → Known g s K n
    → fetch (steps s j).memory (steps s n).machine.address ≡ fetched (steps s n)) where
  -- one instruction further, which is not due yet
  sees_on : (j n : ℕ) → Sees g s (c + 1) j n → c + 1 < due g s (suc n) → Sees g s (c + 1) j (suc n)
  sees_on j n v h = record { lo = omega (arith, v.lo); older = v.older; later = λ _. go (dec_lt j n) }
    where
      go : Dec (j < n) → c + 1 < due g s (suc j)
      go (yes q) = v.later q
      go (no q) =
          let e : j ≡ n = omega (arith, v.lo) in
          rw e h

  -- behind an empty D nothing waits
  no_wait : (n : ℕ) → (advanced g p).pipeline.d ≡ bubble_d → bit (waits_for g (advanced g p).pipeline.d (fetched (steps s n))) ≡ 0
  unfolding bit waits_for
  no_wait n h = ap (λ (d : StageD). bit (waits_for g d (fetched (steps s n)))) h

  sees_all : (n : ℕ) → ((i : ℕ) → i < n → due g s (suc i) ≤ c + 1) → Sees g s (c + 1) n n
  sees_all n h = record { lo = omega arith; older = h; later = λ q. absurd (omega arith) }

  -- F: what is known of the older stages when an instruction is fetched
  record Fetching (n : ℕ) : Type 0 where
    whole : cancels p ≡ false
    free : waits g p ≡ false
    right : mispredicts g p ≡ false
    stays : returns p ≡ false
    stays_m : ret_in_m p.pipeline.m ≡ false
    j : ℕ
    memory : p.memory ≡ (steps s j).memory
    sees : Sees g s (c + 1) j n

  module _ (n : ℕ) (v : Fetching n) (l : Known g s K n) (a : fetch_address g p ≡ (steps s n).machine.address)
      (y : bit (waits_for g p.pipeline.d (fetched (steps s n))) ≡ wait g s (suc n))
      (t : due g s (suc n) ≡ c + 5 + bit (waits g p) + bit (waits_for g p.pipeline.d (fetched (steps s n)))) where
    got : fetched_now g p ≡ fetched (steps s n)
    unfolding fetched_now bit
    got = cc (sight v.j n v.sees (omega (arith, ap bit v.free)) l)

    got_d : (advanced g p).pipeline.d ≡ in_d (fetched (steps s n))
    got_d = Signals.d_next g p (fetched (steps s n)) v.whole v.free v.right v.stays got

    got_waits : waits g (advanced g p) ≡ waits_for g p.pipeline.d (fetched (steps s n))
    got_waits = Signals.waits_next g p (fetched (steps s n)) v.whole v.free v.right got_d

    got_due : due g s (suc n) ≡ suc c + 4 + bit (waits g (advanced g p))
    unfolding bit
    got_due = omega (arith, ap bit v.free, ap bit got_waits)

    module _ (q : Guessed g s K n) where
      next_due : due g s (suc (suc n)) ≡ suc c + 5 + bit (waits g (advanced g p)) + bit (waits_for g (advanced g p).pipeline.d (fetched (steps s (suc n))))
      unfolding waits_for
      next_due =
          omega (
            arith,
            got_due,
            Laws.due_next g s n,
            Laws.charge_straight g s n q.right q.stays q.keeps,
            ap (λ (d : StageD). bit (waits_for g d (fetched (steps s (suc n))))) got_d,
          )

      predicted_next_lem : Known g s K (suc n) → (advanced g p).pipeline.predicted ≡ (steps s (suc n)).machine.address
      unfolding steps
      predicted_next_lem k =
          Signals.f_next g p (fetched (steps s n)) v.whole v.free v.stays got
          ∙ sym (Laws.address_predicted (steps s n) l.runs k.runs g q.right q.stays)

      next_wait : bit (waits_for g (advanced g p).pipeline.d (fetched (steps s (suc n)))) ≡ wait g s (suc (suc n))
      unfolding waits_for
      next_wait = ap (λ (d : StageD). bit (waits_for g d (fetched (steps s (suc n))))) got_d ∙ sym (Laws.wait_behind g s n q.keeps)

      next_f : AtF g s K (advanced g p) (suc c) (suc n)
      next_f = go (fate g s K (suc n))
        where
          go : Fate g s K (suc n) → AtF g s K (advanced g p) (suc c) (suc n)
          go (beyond h) = beyond_f h
          go (stop h) = stop_f h
          go (known k) = ready_f k (Signals.at_next g p v.right v.stays_m ∙ predicted_next_lem k) (inr (predicted_next_lem k)) next_wait next_due

    behind_d : (x y z : Bool) → wrong_at g (steps s n) ≡ x → is ret (fetched (steps s n)) ≡ y → patches_at (steps s n) ≡ z → BehindD g s K (advanced g p) (suc c) n
    behind_d true y z e h k = wrong_d e
    behind_d false true z e h k = ret_d h
    behind_d false false true e h k = patch_d k
    behind_d false false false e h k =
        let q : Guessed g s K n = record { right = e; stays = h; keeps = k } in
        goes_d q (next_f q)

  into_d : (n : ℕ) → Fetching n → AtF g s K p c n → AtD g s K (advanced g p) (suc c) n
  into_d n v (beyond_f h) = beyond_d h
  into_d n v (stop_f h) = stop_d h
  into_d n v (ready_f l a hold y t) = full_d l (got_d n v l a y t) (got_due n v l a y t) (behind_d n v l a y t _ _ _ refl refl refl)

  -- D: what is known of W, M and E when an instruction may stand in D
  record Decoding (n : ℕ) : Type 0 where
    whole : cancels p ≡ false
    right : mispredicts g p ≡ false
    stays_e : ret_in_e p.pipeline.e ≡ false
    stays_m : ret_in_m p.pipeline.m ≡ false
    j : ℕ
    memory : p.memory ≡ (steps s j).memory
    sees : Sees g s (c + 1) j n
    codes : (advanced g p).pipeline.codes ≡ (steps s n).machine.codes
    read : is_stopped (steps s n) ≡ false → (q : ℕ) → loads_into p.pipeline.e q ≡ false → source g p q ≡ value (steps s n).machine.registers q
    -- of an instruction that does not wait, valA is read in D or handed over in E
    hand : is_stopped (steps s n) ≡ false → (i : Instruction) → loads_into p.pipeline.e (awaited_a g i) ≡ false
        → handed_a g (after_m (advanced g p).pipeline.m (advanced g p).memory) (decode i (source g p)) ≡ value (steps s n).machine.registers (source_a i)

  -- an instruction held in D keeps the fetch address behind it
  hold_f : (n : ℕ) → cancels p ≡ false → waits g p ≡ true → mispredicts g p ≡ false → ret_in_m p.pipeline.m ≡ false → AtF g s K p c n → AtF g s K (advanced g p) (suc c) n
  unfolding bit
  hold_f n z w m r (beyond_f h) = beyond_f h
  hold_f n z w m r (stop_f h) = stop_f h
  hold_f n z w m r (ready_f l a (inl h) y t) = absurd (true≢false (sym w ∙ Signals.waits_bubble_d g p h))
  hold_f n z w m r (ready_f l a (inr h) y t) =
      ready_f l (Signals.at_next g p m r ∙ (Signals.f_held g p z w ∙ h)) (inr (Signals.f_held g p z w ∙ h))
      (ap (λ (d : StageD). bit (waits_for g d (fetched (steps s n)))) (Signals.d_held g p z m w) ∙ y)
      (omega (
        arith,
        t,
        ap bit w,
        ap bit (Signals.waits_bubble_e g (advanced g p) (Signals.e_waiting g p w)),
        ap (λ (d : StageD). bit (waits_for g d (fetched (steps s n)))) (Signals.d_held g p z m w),
      ))

  into_e : (n : ℕ) → Decoding n → AtD g s K p c n → AtE g s K (advanced g p) (suc c) n
  unfolding bit
  into_e n v (beyond_d h) = beyond_e h
  into_e n v (stop_d h) = stop_e h v.codes
  into_e n v (empty_d h f) =
      empty_e v.codes (Signals.e_bubble g p h)
      (into_d n
      (record {
        whole = v.whole;
        free = Signals.waits_bubble_d g p h;
        right = v.right;
        stays = Signals.returns_none g p (Signals.ret_d_bubble g p h) v.stays_e v.stays_m;
        stays_m = v.stays_m;
        j = v.j;
        memory = v.memory;
        sees = v.sees;
      }) f)
  into_e n v (full_d l h t a) = go (waits g p) refl
    where
      go : (b : Bool) → waits g p ≡ b → AtE g s K (advanced g p) (suc c) n
      go true w =
          empty_e v.codes (Signals.e_waiting g p w)
          (full_d l (Signals.d_held g p v.whole v.right w ∙ h)
          (omega (arith, ap bit w, ap bit (Signals.waits_bubble_e g (advanced g p) (Signals.e_waiting g p w)))) (held a))
        where
          held : BehindD g s K p c n → BehindD g s K (advanced g p) (suc c) n
          held (goes_d q f) = goes_d q (hold_f (suc n) v.whole w v.right v.stays_m f)
          held (wrong_d x) = wrong_d x
          held (ret_d y) = ret_d y
          held (patch_d z) = patch_d z
      go false w = full_e l v.codes e (omega (arith, ap bit w)) (moved a)
        where
          u : (loads_into p.pipeline.e (awaited_a g (fetched (steps s n))) ≡ false) × (loads_into p.pipeline.e (source_b (fetched (steps s n))) ≡ false)
          u = Signals.unloaded g p (fetched (steps s n)) h w

          e : executing g (advanced g p) ≡ in_e (decoded (steps s n))
          e = Signals.e_in g p (steps s n) v.whole w v.right h (v.hand l.runs (fetched (steps s n)) u.0) (v.read l.runs _ u.1)

          moved : BehindD g s K p c n → BehindE g s K (advanced g p) (suc c) n
          moved (goes_d q f) =
              goes_e q
              (into_d (suc n)
              (record {
                whole = v.whole;
                free = w;
                right = v.right;
                stays = Signals.returns_none g p (Signals.ret_d_in g p (fetched (steps s n)) h ∙ q.stays) v.stays_e v.stays_m;
                stays_m = v.stays_m;
                j = v.j;
                memory = v.memory;
                sees = sees_on v.j n v.sees (omega arith);
              }) f)
          moved (wrong_d x) = wrong_e x
          moved (patch_d z) = patch_e z
          moved (ret_d y) = ret_e y (Signals.d_returning g p w (Signals.returns_d g p (Signals.ret_d_in g p (fetched (steps s n)) h ∙ y)))

  -- E: what is known of W and M when an instruction may stand in E
  record Executing (n : ℕ) : Type 0 where
    whole : cancels p ≡ false
    stays_m : ret_in_m p.pipeline.m ≡ false
    failing : fails p ≡ is_stopped (steps s n)
    j : ℕ
    memory : p.memory ≡ (steps s j).memory
    sees : Sees g s (c + 1) j n
    memory' : (advanced g p).memory ≡ (steps s n).memory
    read : is_stopped (steps s n) ≡ false → (q : ℕ) → source_m p q ≡ value (steps s n).machine.registers q

  module _ (len : (n : ℕ) → length (steps s n).machine.registers ≡ 15) where
    -- a register after one more instruction
    read_on_lem : (n : ℕ) → Known g s K n → is_stopped (steps s (suc n)) ≡ false → (q x : ℕ) → x ≡ value (steps s n).machine.registers q
        → past_both (in_w (accessed (steps s n))) q x ≡ value (steps s (suc n)).machine.registers q
    unfolding steps
    read_on_lem n l r q x e =
        cc (value_after (accessed (steps s n)) (steps s n).machine.registers (len n) q, Laws.step_registers (steps s n) l.runs r)

    module _ (n : ℕ) (v : Executing n) (l : Known g s K n) (k : p.pipeline.codes ≡ (steps s n).machine.codes) (h : executing g p ≡ in_e (decoded (steps s n)))
        (t : due g s (suc n) ≡ c + 3) where
      unfailing : fails p ≡ false
      unfailing = v.failing ∙ l.runs

      codes_next : (advanced g p).pipeline.codes ≡ (steps s (suc n)).machine.codes
      unfolding steps
      codes_next = Signals.codes_in g p (steps s n) h k v.whole unfailing ∙ sym (Laws.step_codes (steps s n) l.runs)

      -- the jump in E was guessed wrongly: it stands in M next, and fetch turns to the instruction after it
      mend_e : wrong_at g (steps s n) ≡ true → AtE g s K (advanced g p) (suc c) (suc n)
      unfolding bit waits_for steps wrong_at
      mend_e x = go (fate g s K (suc n))
        where
          wrong : mispredicts g p ≡ true
          wrong = Signals.mispredicts_in g p (steps s n) h k ∙ x

          d' : (advanced g p).pipeline.d ≡ bubble_d
          d' = Signals.d_mispredicted g p wrong

          e' : (advanced g p).pipeline.e ≡ bubble_e
          e' = Signals.e_mispredicted g p wrong

          go : Fate g s K (suc n) → AtE g s K (advanced g p) (suc c) (suc n)
          go (beyond q) = beyond_e q
          go (stop q) = stop_e q codes_next
          go (known l') =
              empty_e codes_next e'
              (empty_d d'
              (ready_f l'
              (Signals.at_mended g (advanced g p) (executed (steps s n)) (Signals.m_in g p (steps s n) h k v.whole unfailing) x
              ∙ sym (Laws.address_mended (steps s n) l.runs l'.runs g x)) (inl d')
              (no_wait (suc n) d' ∙ sym (Laws.wait_none g s n (omega (arith, (Laws.charge_wrong g s n x).2))))
              (omega (
                arith,
                Laws.due_next g s n,
                (Laws.charge_wrong g s n x).2,
                ap bit (Signals.waits_bubble_e g (advanced g p) e'),
                ap (λ (d : StageD). bit (waits_for g d (fetched (steps s (suc n))))) d',
              ))))

    into_m : (n : ℕ) → Executing n → AtE g s K p c n → AtM g s K (advanced g p) (suc c) n
    unfolding loads_into awaited_a past_both accessed decode
    into_m n v (beyond_e h) = beyond_m h
    into_m n v (stop_e h k) = stop_m h (Signals.codes_failing g p (v.failing ∙ h) ∙ k) v.memory'
    into_m n v (empty_e k h d) = go (is_stopped (steps s n)) refl
      where
        go : (b : Bool) → is_stopped (steps s n) ≡ b → AtM g s K (advanced g p) (suc c) n
        go true r = stop_m r (Signals.codes_bubble g p h ∙ k) v.memory'
        go false r =
            empty_m r v.memory' (Signals.m_bubble g p h)
            (into_e n
            (record {
              whole = v.whole;
              right = Signals.mispredicts_bubble g p h;
              stays_e = Signals.ret_e_bubble g p h;
              stays_m = v.stays_m;
              j = v.j;
              memory = v.memory;
              sees = v.sees;
              codes = Signals.codes_bubble g p h ∙ k;
              read = λ r q _. Signals.source_bubble g p h q ∙ v.read r q;
              hand = λ r i _.
                  Signals.handed_bubble g (advanced g p) (Signals.m_bubble g p h) (decode i (source g p))
                  ∙ (Signals.source_bubble g p h (source_a i) ∙ v.read r (source_a i));
            }) d)
    into_m n v (full_e l k h t a) = full_m l v.memory' (Signals.m_in g p (steps s n) h k v.whole (unfailing n v l k h t)) (omega arith) (moved a)
      where
        in_e_lem : ret_in_e p.pipeline.e ≡ is ret (fetched (steps s n))
        in_e_lem = Signals.ret_e_in g p (decoded (steps s n)) h ∙ ap (is ret) (Laws.in_decoded (steps s n))

        moved : BehindE g s K p c n → BehindM g s K (advanced g p) (suc c) n
        moved (goes_e q d) = goes_m q.stays q.keeps (into_e (suc n) decoding d)
          where
            read' : is_stopped (steps s (suc n)) ≡ false → (q : ℕ) → loads_into p.pipeline.e q ≡ false
                → source g p q ≡ value (steps s (suc n)).machine.registers q
            read' r q u =
                Signals.source_in_lem g p (steps s n) h k q
                ∙ (sym (Laws.past_unloaded (steps s n) q (source_m p q) (sym (Signals.loads_into_in g p (decoded (steps s n)) q h) ∙ u))
                ∙ read_on_lem n l r q (source_m p q) (v.read l.runs q))

            -- the word that the instruction of M loads goes to a store behind it, and any other source was read
            hand' : is_stopped (steps s (suc n)) ≡ false → (i : Instruction) → loads_into p.pipeline.e (awaited_a g i) ≡ false
                → handed_a g (after_m (advanced g p).pipeline.m (advanced g p).memory) (decode i (source g p))
                ≡ value (steps s (suc n)).machine.registers (source_a i)
            hand' r i u = on ∙ go (takes_late g i) met refl refl
              where
                m' : (advanced g p).pipeline.m ≡ in_m (executed (steps s n))
                m' = Signals.m_in g p (steps s n) h k v.whole (unfailing n v l k h t)

                met : Bool
                met = meets (loaded_target (decoded (steps s n)).instruction) (source_a i)

                given : ℕ
                given = cond (takes_late g i && met) (accessed (steps s n)).word (source g p (source_a i))

                on : handed_a g (after_m (advanced g p).pipeline.m (advanced g p).memory) (decode i (source g p)) ≡ given
                on =
                    cc (
                      Signals.handed_of g (advanced g p) (executed (steps s n)) m' (decode i (source g p)),
                      v.memory',
                      Laws.in_executed (steps s n),
                      Laws.in_decoded (steps s n),
                    )

                go : (b m : Bool) → takes_late g i ≡ b → met ≡ m → given ≡ value (steps s (suc n)).machine.registers (source_a i)
                go true true e f =
                    cc (
                      read_on_lem n l r (source_a i) (source_m p (source_a i)) (v.read l.runs (source_a i)),
                      Laws.in_accessed (steps s n),
                      Laws.in_decoded (steps s n),
                    )
                go true false e f = cc (read' r (source_a i) (Signals.loads_into_in g p (decoded (steps s n)) (source_a i) h ∙ f))
                go false m e f = cc (read' r (source_a i) (cc))

            decoding : Decoding (suc n)
            decoding =
                record {
                  whole = v.whole;
                  right = Signals.mispredicts_in g p (steps s n) h k ∙ q.right;
                  stays_e = in_e_lem ∙ q.stays;
                  stays_m = v.stays_m;
                  j = v.j;
                  memory = v.memory;
                  sees = sees_on v.j n v.sees (omega arith);
                  codes = codes_next n v l k h t;
                  read = read';
                  hand = hand';
                }
        moved (patch_e z) = patch_m z (codes_next n v l k h t)
        moved (wrong_e x) = goes_m (Laws.charge_wrong g s n x).0 (Laws.charge_wrong g s n x).1 (mend_e n v l k h t x)
        moved (ret_e y d) =
            ret_m y (codes_next n v l k h t) (Signals.e_bubble g p d) (Signals.d_returning g p (Signals.waits_bubble_d g p d) (Signals.returns_e g p (in_e_lem ∙ y)))

    -- M: what is known of W when an instruction may stand in M
    record Accessing (n : ℕ) : Type 0 where
      run : is_stopped (steps s n) ≡ false
      older : (i : ℕ) → i < n → due g s (suc i) ≤ c + 1
      registers' : (advanced g p).pipeline.registers ≡ (steps s n).machine.registers
      read : (q : ℕ) → source_w p q ≡ value (steps s n).machine.registers q

    module _ (n : ℕ) (l : Known g s K n) (k : p.memory ≡ (steps s n).memory) (h : p.pipeline.m ≡ in_m (executed (steps s n)))
        (t : due g s (suc n) ≡ c + 2) where
      memory_next : (advanced g p).memory ≡ (steps s (suc n)).memory
      unfolding steps
      memory_next = Signals.memory_in g p (steps s n) h k ∙ sym (Laws.step_memory (steps s n) l.runs)

      fails_next : fails p ≡ is_stopped (steps s (suc n))
      unfolding steps
      fails_next = Signals.fails_in g p (steps s n) h k ∙ sym (Laws.step_stops (steps s n) l.runs)

      in_m_lem : ret_in_m p.pipeline.m ≡ is ret (fetched (steps s n))
      in_m_lem = Signals.ret_m_in g p (executed (steps s n)) h ∙ ap (is ret) (Laws.in_executed (steps s n))

      -- the return in M stands in W next, and fetch turns to the word that it read
      return_m : is ret (fetched (steps s n)) ≡ true → p.pipeline.codes ≡ (steps s (suc n)).machine.codes → p.pipeline.e ≡ bubble_e
          → p.pipeline.d ≡ bubble_d
          → AtM g s K (advanced g p) (suc c) (suc n)
      unfolding bit waits_for steps
      return_m y kc e d = go (fate g s K (suc n))
        where
          d' : (advanced g p).pipeline.d ≡ bubble_d
          d' = Signals.d_returning g p (Signals.waits_bubble_d g p d) (Signals.returns_m g p (in_m_lem ∙ y))

          e' : (advanced g p).pipeline.e ≡ bubble_e
          e' = Signals.e_bubble g p d

          m' : (advanced g p).pipeline.m ≡ bubble_m
          m' = Signals.m_bubble g p e

          go : Fate g s K (suc n) → AtM g s K (advanced g p) (suc c) (suc n)
          go (beyond q) = beyond_m q
          go (stop q) = stop_m q (Signals.codes_bubble g p e ∙ kc) memory_next
          go (known l') =
              empty_m l'.runs memory_next m'
              (empty_e (Signals.codes_bubble g p e ∙ kc) e'
              (empty_d d'
              (ready_f l'
              (Signals.at_returned g (advanced g p) (accessed (steps s n)) m' (Signals.w_in g p (steps s n) h k)
              (ap (is ret) (Laws.in_accessed (steps s n)) ∙ y)
              ∙ sym (Laws.address_returned (steps s n) l.runs l'.runs y)) (inl d')
              (no_wait (suc n) d' ∙ sym (Laws.wait_none g s n (omega (arith, Laws.charge_returned g s n y))))
              (omega (
                arith,
                Laws.due_next g s n,
                Laws.charge_returned g s n y,
                ap bit (Signals.waits_bubble_e g (advanced g p) e'),
                ap (λ (d : StageD). bit (waits_for g d (fetched (steps s (suc n))))) d',
              )))))

      -- the store in M wrote into the window: it stands in W next, all behind it is gone, and fetch turns to the instruction after it
      patch_m_lem : patches_at (steps s n) ≡ true → p.pipeline.codes ≡ (steps s (suc n)).machine.codes → AtM g s K (advanced g p) (suc c) (suc n)
      unfolding bit waits_for steps
      patch_m_lem y kc = go (fate g s K (suc n))
        where
          z : cancels p ≡ true
          z = Signals.cancels_in g p (steps s n) h k ∙ y

          d' : (advanced g p).pipeline.d ≡ bubble_d
          d' = Signals.d_cancelled g p z

          e' : (advanced g p).pipeline.e ≡ bubble_e
          e' = Signals.e_cancelled g p z

          m' : (advanced g p).pipeline.m ≡ bubble_m
          m' = Signals.m_cancelled g p z

          codes' : (advanced g p).pipeline.codes ≡ (steps s (suc n)).machine.codes
          codes' = Signals.codes_cancelled g p z ∙ kc

          go : Fate g s K (suc n) → AtM g s K (advanced g p) (suc c) (suc n)
          go (beyond q) = beyond_m q
          go (stop q) = stop_m q codes' memory_next
          go (known l') =
              empty_m l'.runs memory_next m'
              (empty_e codes' e'
              (empty_d d'
              (ready_f l'
              (Signals.at_restarted g (advanced g p) (accessed (steps s n)) m' (Signals.w_in g p (steps s n) h k) (ap (is ret) (Laws.in_accessed (steps s n)) ∙ (Laws.charge_patched g s n y).0)
              ∙ (Signals.f_cancelled g p z (executed (steps s n)) h ∙ sym (Laws.address_patched (steps s n) l.runs l'.runs y))) (inl d')
              (no_wait (suc n) d' ∙ sym (Laws.wait_none g s n (omega (arith, (Laws.charge_patched g s n y).1))))
              (omega (
                arith,
                Laws.due_next g s n,
                (Laws.charge_patched g s n y).1,
                ap bit (Signals.waits_bubble_e g (advanced g p) e'),
                ap (λ (d : StageD). bit (waits_for g d (fetched (steps s (suc n))))) d',
              )))))

    into_w : (n : ℕ) → Accessing n → AtM g s K p c n → AtW g s K (advanced g p) (suc c) n
    into_w n v (beyond_m h) = beyond_w h v.registers'
    into_w n v (stop_m h _ _) = absurd (true≢false (sym h ∙ v.run))
    into_w n v (empty_m r k h e) =
        empty_w r v.registers' (Signals.w_bubble g p h)
        (into_m n
        (record {
          whole = Signals.cancels_bubble g p h;
          stays_m = Signals.ret_m_bubble g p h;
          failing = Signals.fails_bubble g p h ∙ sym r;
          j = n;
          memory = k;
          sees = sees_all n v.older;
          memory' = Signals.memory_bubble g p h ∙ k;
          read = λ _ q. Signals.source_m_bubble g p h q ∙ v.read q;
        }) e)
    into_w n v (full_m l k h t a) = full_w l v.registers' (Signals.w_in g p (steps s n) h k) (omega arith) (moved a)
      where
        moved : BehindM g s K p c n → AtM g s K (advanced g p) (suc c) (suc n)
        moved (goes_m y z e) =
            into_m (suc n)
            (record {
              whole = Signals.cancels_in g p (steps s n) h k ∙ z;
              stays_m = in_m_lem n l k h t ∙ y;
              failing = fails_next n l k h t;
              j = n;
              memory = k;
              sees = sees_on n n (sees_all n v.older) (omega arith);
              memory' = memory_next n l k h t;
              read = λ r q. Signals.source_m_in g p (steps s n) h k q ∙ read_on_lem n l r q (source_w p q) (v.read q);
            }) e
        moved (ret_m y kc e d) = return_m n l k h t y kc e d
        moved (patch_m y kc) = patch_m_lem n l k h t y kc

    -- a clock with a bubble in W, and one in which an instruction retires and the machine runs on
    pub clock_empty : (n : ℕ) → ((i : ℕ) → i < n → due g s (suc i) ≤ c + 1) → is_stopped (steps s n) ≡ false → p.pipeline.registers ≡ (steps s n).machine.registers → p.pipeline.w ≡ bubble_w
        → AtM g s K p c n
        → AtW g s K (advanced g p) (suc c) n
    clock_empty n o r k h a = into_w n (record { run = r; older = o; registers' = Signals.registers_bubble g p h ∙ k; read = λ q. cc (Signals.source_w_bubble g p h q) }) a

    pub clock_full : (n : ℕ) → ((i : ℕ) → i < suc n → due g s (suc i) ≤ c + 1) → Known g s K n → is_stopped (steps s (suc n)) ≡ false → p.pipeline.registers ≡ (steps s n).machine.registers
        → p.pipeline.w ≡ in_w (accessed (steps s n)) → AtM g s K p c (suc n) → AtW g s K (advanced g p) (suc c) (suc n)
    unfolding steps
    clock_full n o l r k h a =
        into_w (suc n)
        (record {
          run = r;
          older = o;
          registers' = Signals.registers_in g p (steps s n) h k ∙ sym (Laws.step_registers (steps s n) l.runs r);
          read = λ q. Signals.source_w_in g p (accessed (steps s n)) q h ∙ read_on_lem n l r q (value p.pipeline.registers q) (ap (λ r. value r q) k);
        }) a

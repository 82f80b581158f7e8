-- Demand 3, proved.
use Prim.Native.Nat.{ℕ, zero, suc, ◌+◌, ◌≤◌, ◌<◌}
use Rattle.std.specs.Prelude.{Bool, ◌⊎◌, ◌≡◌, length}
use Rattle.std.proofs.Math.Bool.{true, false}
use Rattle.std.proofs.Common.{true≢false, inl, inr, ap, ◌∙◌}
use mathlib.Core.List.{append-nil}
use Rattle.std.proofs.Math.Path.{refl, sym, subst}
use native.Mathlib.Omega.{arith}
use Rattle.account.specs.Names.{aok, bubble_w, in_w}
use Rattle.machine.specs.Types.{is_bad}
use Rattle.machine.specs.Fetch.{blame_of}
use Rattle.machine.specs.Plain.{Plain, plain_start, is_stopped, fetched, accessed, stopped_by, steps}
use Rattle.clocked.specs.Prediction.{Core}
use Rattle.clocked.specs.Charges.{reason_from, reason_of, kinds_of, charge, charges, amount, due, due_cycles}
use Rattle.clocked.specs.Pipeline.{Piped, pipe_start, waits, waits_behind, mended, returned_to, fetch_address, last_after}
use Rattle.clocked.specs.Pipeline.{retired_after, kinds_after, kept_after, logged, advanced, stopped_in, clock, clocks}
use Rattle.account.specs.Statement.{Start, plain_from, piped_from, DueBy, kept_of, Agrees, Demand3}
use Rattle.account.specs.Seen.{wait, waiting, Seen, UntouchedAhead, Demand3Under}
use Rattle.account.proofs.Reach.{UntouchedStraight, straight_ahead}
use Rattle.account.proofs.Laws
use Rattle.account.proofs.Laws.{bit}
use Rattle.account.proofs.Signals.{waits_for}
use Rattle.account.proofs.Relation.{Known, Beyond, AtM, AtW, ready_f, empty_d, empty_e, beyond_m, stop_m, empty_m, full_m, beyond_w, empty_w, full_w}
use Rattle.account.proofs.Clock
use Rattle.account.proofs.Sight
use Rattle.account.proofs.Timing.{Older, older_later, older_next, exactly, exactly_stopped, due_order, late_w}
use Rattle.laws.specs.Status.{sound}
use Rattle.clock_laws.specs.Stops.{clock_still}
use Rattle.account.proofs.Retirement.{Books, clock_bubble, clock_retires, clock_stops, books_retires, books_stops}

module _ (g : Core) (s : Plain) (k : ℕ) where
  pub reason_kept : (n : ℕ) → reason_from g (kept_of s n) (fetched (steps s n)) ≡ reason_of g s (suc n)
  unfolding kept_of reason_from reason_of
  reason_kept zero = refl
  reason_kept (suc n) = refl

  -- what the pipeline has counted and logged of n instructions
  pub record Counted (p : Piped) (n : ℕ) : Type 0 where
    pub retired : p.pipeline.retired ≡ n
    pub addresses : p.address_log ≡ (steps s n).log
    pub cycles : p.cycle_log ≡ due_cycles g s n
    pub kinds : p.pipeline.kinds ≡ kinds_of g s n
    pub last : p.pipeline.last ≡ (steps s n).machine.last
    pub blame : p.pipeline.blame ≡ (steps s n).machine.blame

  -- where it stands: it runs on, or it has stopped
  pub data Now (p : Piped) (c n : ℕ) : Type 0 where
    going : p.pipeline.status ≡ aok → p.pipeline.cycles ≡ c → p.pipeline.kept ≡ kept_of s n → AtW g s (suc k) p c n → Now p c n
    ended : is_stopped (steps s n) ≡ true → p.pipeline.status ≡ (steps s n).machine.status → p.pipeline.registers ≡ (steps s n).machine.registers
        → p.pipeline.codes ≡ (steps s n).machine.codes → p.memory ≡ (steps s n).memory → p.pipeline.cycles ≡ due g s n → Now p c n

  pub record After (p : Piped) (c n : ℕ) : Type 0 where
    pub counts : Counted p n
    pub older : Older g s c n
    pub now : Now p c n

  -- WHAT IT SAYS
  w_registers : (p : Piped) (c n : ℕ) → AtW g s (suc k) p c n → p.pipeline.registers ≡ (steps s n).machine.registers
  w_registers p c n (beyond_w _ h) = h
  w_registers p c n (empty_w _ h _ _) = h
  w_registers p c n (full_w _ h _ _ _) = h

  w_runs : (p : Piped) (c n : ℕ) → AtW g s (suc k) p c n → is_stopped (steps s n) ≡ false
  w_runs p c n (beyond_w h _) = h.runs
  w_runs p c n (empty_w h _ _ _) = h
  w_runs p c n (full_w l _ _ _ _) = l.runs

  module _ (p : Piped) (c n : ℕ) (i : After p c n) where
    agrees_with : DueBy g s c n → p.pipeline.registers ≡ (steps s n).machine.registers → p.pipeline.status ≡ (steps s n).machine.status
        → (is_bad p.pipeline.status ≡ false → (p.pipeline.kept ≡ kept_of s n) × (p.pipeline.cycles ≡ c))
        → (is_bad p.pipeline.status ≡ true → (p.memory ≡ (steps s n).memory) × (p.pipeline.codes ≡ (steps s n).machine.codes)
        × (p.pipeline.cycles ≡ due g s n))
        → Agrees g s p c n
    agrees_with d r st on off =
        let k = i.counts in
        record {
          retired = k.retired;
          exactly = d;
          addresses = k.addresses;
          cycles = k.cycles;
          kinds = k.kinds;
          registers = r;
          status = st;
          last = k.last;
          blame = k.blame;
          kept = λ h. (on h).0;
          running = λ h. (on h).1;
          stopped = off;
        }

    agrees : c ≤ due g s (suc k) → Agrees g s p c n
    unfolding is_stopped is_bad
    agrees q = go i.now
      where
        late : (c < due g s (suc n)) ⊎ Beyond g s (suc k) n → c < due g s (suc n)
        late (inl z) = z
        late (inr z) = omega (arith, due_order g s (suc k) (suc n) (omega (arith, z.above)), z.above)

        go : Now p c n → Agrees g s p c n
        go (going h y v a) =
            agrees_with (exactly g s i.older (λ _. late (late_w g s (suc k) p c n a))) (w_registers p c n a)
            (h ∙ sym (sound (steps s n).machine.status (w_runs p c n a))) (λ _. (v, y))
            (λ b. absurd (true≢false (sym b ∙ ap is_bad h)))
        go (ended h st r cd m y) =
            agrees_with (exactly_stopped g s i.older h) r st (λ b. absurd (true≢false (sym h ∙ (sym (ap is_bad st) ∙ b)))) (λ _. (m, cd, y))

  -- ONE CLOCK
  counted_next : (p p' : Piped) (c n : ℕ) → Counted p n → Books g p p' (accessed (steps s n)) → p.pipeline.cycles ≡ c → p.pipeline.kept ≡ kept_of s n
      → is_stopped (steps s n) ≡ false → due g s (suc n) ≡ c + 1 → p'.pipeline.blame ≡ (steps s (suc n)).machine.blame → Counted p' (suc n)
  unfolding steps due_cycles kinds_of
  counted_next p p' c n i b y v r t f =
      record {
        retired = omega (arith, b.retired, i.retired);
        addresses = cc (b.addresses, i.addresses, here, (Laws.step_logs (steps s n) r).log);
        cycles = cc (b.cycles, i.cycles, now);
        kinds = cc (b.kinds, i.kinds, Laws.in_accessed (steps s n), reason_kept n);
        last = cc (b.last, here, (Laws.step_logs (steps s n) r).last);
        blame = f;
      }
    where
      here : (accessed (steps s n)).instruction.address ≡ (steps s n).machine.address
      here = cc (Laws.in_accessed (steps s n), Laws.fetched_address (steps s n))

      now : p.pipeline.cycles + 1 ≡ due g s (suc n)
      now = omega arith

  module _ (len : (n : ℕ) → length (steps s n).machine.registers ≡ 15) (u : Seen g s (suc k)) where
    module _ (p : Piped) (c n : ℕ) (i : Counted p n) (o : Older g s c n) (y : p.pipeline.cycles ≡ c) (v : p.pipeline.kept ≡ kept_of s n)
        (h : p.pipeline.registers ≡ (steps s n).machine.registers) where
      after_bubble : is_stopped (steps s n) ≡ false → p.pipeline.w ≡ bubble_w → AtM g s (suc k) p c n → After (advanced g p) (suc c) n
      unfolding advanced last_after retired_after kinds_after kept_after logged
      after_bubble r w a =
          record {
            counts =
                record {
                  retired = cc i.retired;
                  addresses = cc (i.addresses, append-nil p.address_log);
                  cycles = cc (i.cycles, append-nil p.cycle_log);
                  kinds = cc i.kinds;
                  last = cc i.last;
                  blame = i.blame;
                };
            older = older_later g s o (suc c) (omega arith);
            now = going refl (omega arith) (cc) (Clock.clock_empty g s (suc k) p c (Sight.sight g s (suc k) u c) len n (older_later g s o (c + 1) (omega arith)).arrived r h w a);
          }

      module _ (l : Known g s (suc k) n) (w : p.pipeline.w ≡ in_w (accessed (steps s n))) (t : due g s (suc n) ≡ c + 1) (a : AtM g s (suc k) p c (suc n)) where
        after_retires : is_stopped (steps s (suc n)) ≡ false → After (advanced g p) (suc c) (suc n)
        unfolding advanced kept_after kept_of steps
        after_retires r =
            record {
              counts = counted_next p (advanced g p) c n i (books_retires g p (accessed (steps s n)) w) y v l.runs t (i.blame ∙ sym (Laws.step_blame (steps s n) l.runs r));
              older = older_next g s o l.runs (suc c) (omega arith) (omega arith);
              now = going refl (omega arith) (cc) (Clock.clock_full g s (suc k) p c (Sight.sight g s (suc k) u c) len n (older_next g s o l.runs (c + 1) (omega arith) t).arrived l r h w a);
            }

        after_stops : is_stopped (steps s (suc n)) ≡ true → After (stopped_in g p (accessed (steps s n))) (suc c) (suc n)
        unfolding steps stopped_in stopped_by
        after_stops r =
            record {
              counts = counted_next p _ c n i (books_stops g p (accessed (steps s n))) y v l.runs t (blamed a);
              older = older_next g s o l.runs (suc c) (omega arith) (omega arith);
              now = go a;
            }
          where
            e : steps s (suc n) ≡ stopped_by (steps s n) (accessed (steps s n)).status
            e = Laws.step_stopped (steps s n) l.runs (sym (Laws.step_stops (steps s n) l.runs) ∙ r)

            -- the memory in which the byte at fault is looked for is the plain engine's
            same : p.memory ≡ (steps s (suc n)).memory → p.memory ≡ (steps s n).memory
            same m = m ∙ ap (λ x. x.memory) e

            blamed : AtM g s (suc k) p c (suc n) → (stopped_in g p (accessed (steps s n))).pipeline.blame ≡ (steps s (suc n)).machine.blame
            blamed (beyond_m b) = absurd (true≢false (sym r ∙ b.runs))
            blamed (stop_m _ kc km) =
                let at : blame_of p.memory (accessed (steps s n)).instruction ≡ blame_of (steps s n).memory (fetched (steps s n)) =
                cc (same km, Laws.in_accessed (steps s n)) in
                at ∙ sym (ap (λ x. x.machine.blame) e)
            blamed (empty_m b _ _ _) = absurd (true≢false (sym r ∙ b))
            blamed (full_m b _ _ _ _) = absurd (true≢false (sym r ∙ b.runs))

            go : AtM g s (suc k) p c (suc n) → Now (stopped_in g p (accessed (steps s n))) (suc c) (suc n)
            go (beyond_m b) = absurd (true≢false (sym r ∙ b.runs))
            go (stop_m _ kc km) = ended r (sym (ap (λ x. x.machine.status) e)) (h ∙ sym (ap (λ x. x.machine.registers) e)) kc km (omega arith)
            go (empty_m b _ _ _) = absurd (true≢false (sym r ∙ b))
            go (full_m b _ _ _ _) = absurd (true≢false (sym r ∙ b.runs))

    after_clock : (p : Piped) (c n : ℕ) → suc c ≤ due g s (suc k) → After p c n → (n' : ℕ) × After (clock g p) (suc c) n'
    unfolding steps is_stopped is_bad
    after_clock p c n q i = go i.now
      where
        full : (b : Bool) → is_stopped (steps s (suc n)) ≡ b → is_bad p.pipeline.status ≡ false → p.pipeline.cycles ≡ c → p.pipeline.kept ≡ kept_of s n
            → Known g s (suc k) n
            → p.pipeline.registers ≡ (steps s n).machine.registers → p.pipeline.w ≡ in_w (accessed (steps s n)) → due g s (suc n) ≡ c + 1
            → AtM g s (suc k) p c (suc n) → (n' : ℕ) × After (clock g p) (suc c) n'
        full true r st y v l h w t a = (
          suc n,
          subst (λ (z : Piped). After z (suc c) (suc n)) (sym (clock_stops g p st (accessed (steps s n)) w (sym (Laws.step_stops (steps s n) l.runs) ∙ r)))
              (after_stops p c n i.counts i.older y v h l w t a r),
        )
        full false r st y v l h w t a = (
          suc n,
          subst (λ (z : Piped). After z (suc c) (suc n)) (sym (clock_retires g p st (accessed (steps s n)) w (sym (Laws.step_stops (steps s n) l.runs) ∙ r)))
              (after_retires p c n i.counts i.older y v h l w t a r),
        )

        go : Now p c n → (n' : ℕ) × After (clock g p) (suc c) n'
        go (going st y v (beyond_w b h)) = absurd (omega (arith, i.older.arrived k b.above))
        go (going st y v (empty_w r h w a)) =
            (n, subst (λ (z : Piped). After z (suc c) n) (sym (clock_bubble g p (ap is_bad st) w)) (after_bubble p c n i.counts i.older y v h r w a))
        go (going st y v (full_w l h w t a)) = full (is_stopped (steps s (suc n))) refl (ap is_bad st) y v l h w t a
        go (ended r st h kc km y) = (
          n,
          subst (λ (z : Piped). After z (suc c) n) (sym (clock_still g p (ap is_bad st ∙ r)))
              (record { counts = i.counts; older = older_later g s i.older (suc c) (omega arith); now = ended r st h kc km y }),
        )

module _ (g : Core) (t : Start) (k : ℕ) where
  start_after : After g (plain_from t) k (piped_from t) 0 0
  unfolding plain_from piped_from plain_start pipe_start steps is_stopped is_bad due_cycles kinds_of kept_of due charges charge reason_of amount bit
      waits waits_behind waits_for fetch_address mended returned_to wait waiting
  start_after =
      record {
        counts = record { retired = refl; addresses = refl; cycles = refl; kinds = refl; last = refl; blame = refl };
        older = record { performed = λ j q. absurd (omega arith); arrived = λ j q. absurd (omega arith) };
        now =
            going refl refl refl (empty_w refl refl refl
            (empty_m refl refl refl (empty_e refl refl (empty_d refl (ready_f (record { runs = refl; below = omega arith }) refl (inl refl) refl refl)))));
      }

  pub after_clocks : length t.registers ≡ 15 → Seen g (plain_from t) (suc k) → (c : ℕ) → c ≤ due g (plain_from t) (suc k)
      → (n : ℕ) × After g (plain_from t) k (clocks g (piped_from t) c) c n
  unfolding clocks plain_from plain_start
  after_clocks l u zero q = (0, start_after)
  after_clocks l u (suc c) q =
      let x = after_clocks l u c (omega arith) in
      after_clock g (plain_from t) k (Laws.length_steps (plain_from t) l) u (clocks g (piped_from t) c) c x.0 q x.1

-- DEMAND 3 on its weakest premise
pub demand3_seen : Demand3Under Seen
demand3_seen g t l k u c q =
    let x = after_clocks g t k l u c q in
    (x.0, agrees g (plain_from t) k (clocks g (piped_from t) c) c x.0 x.1 q)

-- by pairs, by threes as far as the pipeline is not turned, and as document 01 says it
pub demand3_ahead : Demand3Under UntouchedAhead
demand3_ahead g t l k u = demand3_seen g t l k (Sight.ahead_seen g (plain_from t) (suc k) u)

pub demand3_straight : Demand3Under UntouchedStraight
demand3_straight g t l k u = demand3_ahead g t l k (straight_ahead g (plain_from t) (suc k) u)

pub demand3 : Demand3
demand3 g t l k u = demand3_straight g t l k (Sight.premise_straight g (plain_from t) (suc k) u)

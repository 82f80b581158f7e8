-- Demand 3 as it is used.
use Rattle.std.specs.Prelude.{ℕ, suc, ◌+◌, ◌-◌, ◌≤◌, ◌<◌, Bool, true, false, ◌≡◌, refl, length}
use Rattle.std.proofs.Common.{true≢false, sym, ◌∙◌, subst, arith}
use Rattle.std.proofs.Math.Path.{ap}
use Rattle.std.proofs.Math.Decide.{dec_lt}
use Rattle.machine.specs.Types.{is_bad, is_set}
use Rattle.machine.specs.Plain.{Plain, plain_start, is_stopped, steps}
use Rattle.clocked.specs.Prediction.{Core}
use Rattle.clocked.specs.Charges.{due}
use Rattle.clocked.specs.Pipeline.{Piped, clocks}
use Rattle.account.specs.Seen.{Seen}
use Rattle.account.specs.Statement.{Start, plain_from, piped_from, DueBy, Agrees}
use Rattle.account.proofs.Sight.{runs_before, premise_seen}
use Rattle.account.proofs.Timing.{Older, exactly, exactly_stopped, due_grows, due_order}
use Rattle.clock_laws.specs.Stops.{stays}
use Rattle.account.proofs.Theorem.{demand3_seen}
use Rattle.account.specs.Uses.{SameAnswer}

-- WHICH ARE DUE
module _ (g : Core) (s : Plain) where
  -- "exactly n" says one number
  pub due_only : (c m n : ℕ) → DueBy g s c m → DueBy g s c n → m ≡ n
  due_only c m n a b = go (dec_lt m n) (dec_lt n m)
    where
      go : Dec (m < n) → Dec (n < m) → m ≡ n
      go (yes h) _ = absurd (omega (arith, a.awaited (b.performed m h), b.arrived m h))
      go (no _) (yes h) = absurd (omega (arith, b.awaited (a.performed n h), a.arrived n h))
      go (no x) (no y) = omega arith

  -- all n are due by the cycle of the n-th
  all_due : (c n : ℕ) → ((i : ℕ) → i < n → is_stopped (steps s i) ≡ false) → due g s n ≤ c → Older g s c n
  all_due c n f h = record { performed = f; arrived = λ i q. omega (arith, due_order g s (suc i) n q) }

  pub due_stopped : (c n : ℕ) → ((i : ℕ) → i < n → is_stopped (steps s i) ≡ false) → is_stopped (steps s n) ≡ true → due g s n ≤ c → DueBy g s c n
  due_stopped c n f b h = exactly_stopped g s (all_due c n f h) b

  -- one fewer before the cycle of instruction k + 1 than in it
  module _ (k : ℕ) (r : is_stopped (steps s k) ≡ false) where
    before : (i : ℕ) → i < suc k → is_stopped (steps s i) ≡ false
    before i h = runs_before s (k - i) i k (omega arith) r

    pub due_in_lem : DueBy g s (due g s (suc k)) (suc k)
    due_in_lem = exactly g s (all_due (due g s (suc k)) (suc k) before (omega arith)) (λ _. due_grows g s (suc k))

    due_before : (c : ℕ) → suc c ≡ due g s (suc k) → DueBy g s c k
    due_before c e = exactly g s (all_due c k (λ i h. before i (omega arith)) (omega (arith, due_grows g s k))) (λ _. omega arith)

pub same_answer : (g : Core) (s : Plain) (p q : Piped) (c m n : ℕ) → Agrees g s p c m → Agrees g s q c n → SameAnswer p q
same_answer g s p q c m n a b = go (subst (λ (x : ℕ). Agrees g s p c x) (due_only g s c m n a.exactly b.exactly) a)
  where
    go : Agrees g s p c n → SameAnswer p q
    go a =
        record {
          retired = cc;
          counts = times (is_bad p.pipeline.status) refl;
          addresses = cc;
          cycles = cc;
          kinds = cc;
          registers = cc;
          status = same;
          last = cc;
          blame = cc;
          kept = λ h. a.kept h ∙ sym (b.kept (sym (ap is_bad same) ∙ h));
          stopped = λ h. let x = a.stopped h in let y = b.stopped (sym (ap is_bad same) ∙ h) in (x.0 ∙ sym y.0, x.1 ∙ sym y.1);
        }
      where
        same : p.pipeline.status ≡ q.pipeline.status
        same = a.status ∙ sym b.status

        times : (x : Bool) → is_bad p.pipeline.status ≡ x → p.pipeline.cycles ≡ q.pipeline.cycles
        times true h = (a.stopped h).2 ∙ sym (b.stopped (sym (ap is_bad same) ∙ h)).2
        times false h = a.running h ∙ sym (b.running (sym (ap is_bad same) ∙ h))

-- from a stop on a clock changes nothing
module _ (g : Core) (t : Start) (l : length t.registers ≡ 15) where
  -- THE UNBOUNDED FORM: where the premise holds throughout, after every clock
  pub always : ((K : ℕ) → Seen g (plain_from t) K) → (c : ℕ) → (n : ℕ) × Agrees g (plain_from t) (clocks g (piped_from t) c) c n
  unfolding due
  always u c = demand3_seen g t l c (u (suc c)) c (omega arith)

  -- WITH A WINDOW SET there is no premise: after every clock, whatever is stored where
  pub with_window : is_set t.settings.window ≡ true → (c : ℕ) → (n : ℕ) × Agrees g (plain_from t) (clocks g (piped_from t) c) c n
  unfolding plain_from plain_start
  with_window w = always (λ K. premise_seen g _ K (λ o. absurd (true≢false (sym w ∙ o))))

  module _ (k : ℕ) (u : Seen g (plain_from t) (suc k)) where
    -- as many have retired as are due
    counted_off : (c n : ℕ) → c ≤ due g (plain_from t) (suc k) → DueBy g (plain_from t) c n → Agrees g (plain_from t) (clocks g (piped_from t) c) c n
    counted_off c n q d =
        let x = demand3_seen g t l k u c q in
        subst (λ (m : ℕ). Agrees g (plain_from t) (clocks g (piped_from t) c) c m) (due_only g (plain_from t) c x.0 n x.1.exactly d) x.1

    module _ (r : is_stopped (steps (plain_from t) k) ≡ false) where
      -- ON TIME: instruction k + 1 has retired after the clock of its due cycle, and not a clock before
      pub on_time : Agrees g (plain_from t) (clocks g (piped_from t) (due g (plain_from t) (suc k))) (due g (plain_from t) (suc k)) (suc k)
      on_time = counted_off _ (suc k) (omega arith) (due_in_lem g (plain_from t) k r)

      pub not_earlier : (c : ℕ) → suc c ≡ due g (plain_from t) (suc k) → Agrees g (plain_from t) (clocks g (piped_from t) c) c k
      not_earlier c e = counted_off c k (omega arith) (due_before g (plain_from t) k r c e)

      -- THE STOP: where instruction k + 1 stops the plain engine, the pipeline stops in its due cycle with the same status, and stays
      module _ (b : is_stopped (steps (plain_from t) (suc k)) ≡ true) where
        pub stops_with : is_bad (clocks g (piped_from t) (due g (plain_from t) (suc k))).pipeline.status ≡ true
        unfolding is_stopped
        stops_with = ap is_bad on_time.status ∙ b

        pub stops_for_good : (d : ℕ) → clocks g (piped_from t) (d + due g (plain_from t) (suc k)) ≡ clocks g (piped_from t) (due g (plain_from t) (suc k))
        stops_for_good d = stays g (piped_from t) (due g (plain_from t) (suc k)) d stops_with

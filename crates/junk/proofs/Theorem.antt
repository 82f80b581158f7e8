-- Bytes that play no part, proved: demand 3 on both images, whose plain histories are the same.
use Prim.Native.Nat.{ℕ, zero, suc, ◌+◌, ◌<◌}
use Rattle.std.specs.Prelude.{Bool, ◌&&◌, ◌≢◌, ◌≡◌, ltb, leb, length}
use Rattle.std.proofs.Math.Bool.{true, false}
use Rattle.std.proofs.Common.{true≢false, ◌∙◌, subst, arith, ltb-true, lt-ltb}
use Rattle.std.proofs.Math.Path.{refl, ap, sym}
use Rattle.std.proofs.Math.Decide.{ℕ_discrete}
use Rattle.machine.specs.declared.Machine.{Machine}
use Rattle.machine.specs.Types.{is_bad}
use Rattle.machine.specs.Memory.{Memory, holding, code_end, through}
use Rattle.machine.specs.Fetch.{size_at}
use Rattle.machine.specs.Plain.{Plain, plain_start, is_stopped, steps}
use Rattle.clocked.specs.Prediction.{Core, core01}
use Rattle.clocked.specs.Charges.{reason_of, charge, charges, kinds_of, due, due_cycles}
use Rattle.clocked.specs.Pipeline.{Piped, pipe_start, advanced, stopped_in, clock, clocks}
use Rattle.clocked.specs.Premise.{has_byte, Premise}
use Rattle.clock_laws.specs.Settings.{clocks_keep}
use Rattle.published.specs.Fetching.{M₁}
use Rattle.account.specs.Statement.{Start, plain_from, piped_from, DueBy, kept_of, Agrees}
use Rattle.account.proofs.Timing.{up_to}
use Rattle.account.proofs.Retirement.{clock_any}
use Rattle.account.proofs.Uses.{due_only, always}
use Rattle.account.proofs.Sight.{premise_seen, seen_on}
use Rattle.account.specs.Midrun.{Landed}
use Rattle.account.proofs.Midrun.{always_in_mid_run}
use Rattle.junk.specs.Statement.{looked, looks_at, reads_byte, NoPart, NoPartAsIn01, DifferOnlyAt, AtMost, imaged, SameStep, SameClock, BytesThatPlayNoPart}
use Rattle.junk.proofs.Bytes.{Alike, looked_within}
use Rattle.junk.proofs.History.{Beside, Covers, Twins, twins, stop_alike, premise_alike, no_part_alike}

-- the images are the same at x
abbrev Same : Memory → Memory → ℕ → Type 0
Same m m' x = M₁ m x ≡ M₁ m' x

-- THE ACCOUNT of two histories with the same instructions
module _ (E : ℕ → Type 0) (g : Core) (s s' : Plain) (w : Twins E s s') where
  abbrev Runs : ℕ → Type 0
  Runs n = (i : ℕ) → i < n → is_stopped (steps s i) ≡ false

  fewer : (n : ℕ) → Runs (suc n) → Runs n
  fewer n r i h = r i (omega arith)

  reason_alike : (n : ℕ) → Runs n → reason_of g s n ≡ reason_of g s' n
  unfolding reason_of
  reason_alike zero r = refl
  reason_alike (suc zero) r = refl
  reason_alike (suc (suc n)) r = cc (w.accesses n (r n (omega arith)), w.fetches (suc n) (r (suc n) (omega arith)))

  charges_alike : (n : ℕ) → Runs n → charges g s n ≡ charges g s' n
  unfolding charges charge
  charges_alike zero r = refl
  charges_alike (suc n) r = cc (charges_alike n (fewer n r), reason_alike (suc n) r)

  kinds_alike : (n : ℕ) → Runs n → kinds_of g s n ≡ kinds_of g s' n
  unfolding kinds_of
  kinds_alike zero r = refl
  kinds_alike (suc n) r = cc (kinds_alike n (fewer n r), reason_alike (suc n) r)

  kept_alike : (n : ℕ) → Runs n → kept_of s n ≡ kept_of s' n
  unfolding kept_of
  kept_alike zero r = refl
  kept_alike (suc n) r = cc (w.accesses n (r n (omega arith)))

  due_alike : (n : ℕ) → Runs n → due g s n ≡ due g s' n
  unfolding due
  due_alike n r = cc (charges_alike n r)

  cycles_alike : (n : ℕ) → Runs n → due_cycles g s n ≡ due_cycles g s' n
  unfolding due_cycles
  cycles_alike zero r = refl
  cycles_alike (suc n) r = cc (cycles_alike n (fewer n r), due_alike (suc n) r)

  -- the same are due
  due_by_alike : (c n : ℕ) → DueBy g s' c n → DueBy g s c n
  due_by_alike c n d =
      record {
        performed = runs;
        arrived = λ k h. omega (arith, d.arrived k h, due_alike (suc k) (λ i q. runs i (omega arith)));
        awaited = λ h. omega (arith, d.awaited (sym (stop_alike E s s' w n) ∙ h), due_alike (suc n) (up_to n runs h));
      }
    where
      runs : Runs n
      runs i h = stop_alike E s s' w i ∙ d.performed i h

  same_number : (c n n' : ℕ) → DueBy g s c n → DueBy g s' c n' → n' ≡ n
  same_number c n n' d d' = due_only g s c n' n (due_by_alike c n' d') d

-- a clock that stops, and one after a stop, keep the instruction last retired with AOK
kept_at_stop : (g : Core) (p : Piped) → is_bad (clock g p).pipeline.status ≡ true → (clock g p).pipeline.kept ≡ p.pipeline.kept
unfolding advanced stopped_in is_bad
kept_at_stop g p =
    clock_any g p (λ q. is_bad q.pipeline.status ≡ true → q.pipeline.kept ≡ p.pipeline.kept) (λ _. refl) (λ h. absurd (true≢false (sym h))) (λ w h. refl)

-- ONE CLOCK NUMBER, both pipelines: n have retired, the stores of a are in memory, the codes are those of b
module _ (m m' : Memory) (g : Core) (s s' : Plain) (w : Twins (Same m m') s s') where
  at_most : (u u' : Memory) → Alike (Same m m') u u' → AtMost m m' u u'
  at_most u u' h = record { rest = h.rest; sizes = h.sizes; only = λ x d e. d (h.same x e) }

  pub same_step : (n : ℕ) → SameStep m m' (steps s n) (steps s' n)
  same_step n = record { machine = (w.after n).machine; log = (w.after n).log; memory = at_most _ _ (w.after n).memory }

  module _ (p p' : Piped) (c n : ℕ) (x : Agrees g s p c n) (x' : Agrees g s' p' c n) where
    status_alike : p.pipeline.status ≡ p'.pipeline.status
    status_alike = x.status ∙ (ap (λ (k : Machine). k.status) (w.after n).machine ∙ sym x'.status)

    kept_running : is_bad p.pipeline.status ≡ false → p.pipeline.kept ≡ p'.pipeline.kept
    kept_running h = x.kept h ∙ (kept_alike (Same m m') g s s' w n x.exactly.performed ∙ sym (x'.kept (sym (ap is_bad status_alike) ∙ h)))

    same_clock : (a b : ℕ) → Landed g s p c a b → Landed g s' p' c a b → p.pipeline.settings ≡ p'.pipeline.settings
        → p.pipeline.kept ≡ p'.pipeline.kept → SameClock m m' p p'
    same_clock a b y y' z k =
        let runs = x.exactly.performed in
        let e = (w.after n).machine in
        record {
          pipeline =
              record {
                settings = z;
                registers = cc (x.registers, x'.registers);
                codes = y.codes ∙ (ap (λ (k : Machine). k.codes) (w.after b).machine ∙ sym y'.codes);
                status = status_alike;
                last = cc (x.last, x'.last);
                retired = x.retired ∙ sym x'.retired;
                cycles = counts (is_bad p.pipeline.status) refl;
                kinds = x.kinds ∙ (kinds_alike (Same m m') g s s' w n runs ∙ sym x'.kinds);
                kept = k;
                blame = cc (x.blame, x'.blame);
              };
          addresses = x.addresses ∙ ((w.after n).log ∙ sym x'.addresses);
          cycles = x.cycles ∙ (cycles_alike (Same m m') g s s' w n runs ∙ sym x'.cycles);
          memory = rw (y.memory, y'.memory) (at_most _ _ (w.after a).memory);
        }
      where
        counts : (z : Bool) → is_bad p.pipeline.status ≡ z → p.pipeline.cycles ≡ p'.pipeline.cycles
        counts false h = x.running h ∙ sym (x'.running (sym (ap is_bad status_alike) ∙ h))
        counts true h = (x.stopped h).2 ∙ (due_alike (Same m m') g s s' w n x.exactly.performed ∙ sym (x'.stopped (sym (ap is_bad status_alike) ∙ h)).2)

  -- after every clock, where both are within the premise throughout
  module _ (q q' : Piped) (alike : q.pipeline.settings ≡ q'.pipeline.settings) (fresh : q.pipeline.kept ≡ q'.pipeline.kept)
      (x : (c : ℕ) → (n : ℕ) × Agrees g s (clocks g q c) c n) (x' : (c : ℕ) → (n : ℕ) × Agrees g s' (clocks g q' c) c n)
      (y : (c : ℕ) → (a b : ℕ) × Landed g s (clocks g q c) c a b) (y' : (c : ℕ) → (a b : ℕ) × Landed g s' (clocks g q' c) c a b) where
    as_many : (c : ℕ) → Agrees g s' (clocks g q' c) c (x c).0
    as_many c =
        subst (λ (n : ℕ). Agrees g s' (clocks g q' c) c n) (same_number (Same m m') g s s' w c (x c).0 (x' c).0 (x c).1.exactly (x' c).1.exactly) (x' c).1

    landed_as : (c : ℕ) → Landed g s' (clocks g q' c) c (y c).0 (y c).1
    landed_as c =
        let e = same_number (Same m m') g s s' w (c + 1) (y c).0 (y' c).0 (y c).2.stores (y' c).2.stores in
        let f = same_number (Same m m') g s s' w (c + 2) (y c).1 (y' c).1 (y c).2.sets (y' c).2.sets in
        subst (λ (b : ℕ). Landed g s' (clocks g q' c) c (y c).0 b) f (subst (λ (a : ℕ). Landed g s' (clocks g q' c) c a (y' c).1) e (y' c).2)

    kept_always : (c : ℕ) → (clocks g q c).pipeline.kept ≡ (clocks g q' c).pipeline.kept
    unfolding clocks
    kept_always zero = fresh
    kept_always (suc c) = go (kept_always c) (is_bad (clocks g q (suc c)).pipeline.status) refl
      where
        go : (clocks g q c).pipeline.kept ≡ (clocks g q' c).pipeline.kept → (b : Bool) → is_bad (clocks g q (suc c)).pipeline.status ≡ b
            → (clocks g q (suc c)).pipeline.kept ≡ (clocks g q' (suc c)).pipeline.kept
        go h false e = kept_running (clocks g q (suc c)) (clocks g q' (suc c)) (suc c) (x (suc c)).0 (x (suc c)).1 (as_many (suc c)) e
        go h true e =
            kept_at_stop g (clocks g q c) e
            ∙ (h ∙ sym (kept_at_stop g (clocks g q' c) (sym (ap is_bad (status_alike (clocks g q (suc c)) (clocks g q' (suc c)) (suc c) (x (suc c)).0 (x (suc c)).1 (as_many (suc c)))) ∙ e)))

    pub same_clocks : (c : ℕ) → SameClock m m' (clocks g q c) (clocks g q' c)
    same_clocks c =
        same_clock (clocks g q c) (clocks g q' c) c (x c).0 (x c).1 (as_many c) (y c).0 (y c).1 (y c).2 (landed_as c)
        (clocks_keep g q c ∙ (alike ∙ sym (clocks_keep g q' c))) (kept_always c)

-- THE THEOREM
module _ (t : Start) (m' : Memory) (d : DifferOnlyAt (NoPart (plain_from t)) t.memory m') where
  -- all that is looked at is the same in both images
  covers : (n : ℕ) → is_stopped (steps (plain_from t) n) ≡ false → Covers (Same t.memory m') (steps (plain_from t) n)
  covers n r =
      let s = steps (plain_from t) n in
      record { looks = λ x h. by x (looks_at s x) h (λ z. (d.only x z).0 n r); reads = λ x h. by x (reads_byte s x) h (λ z. (d.only x z).1 n r) }
    where
      by : (x : ℕ) (b : Bool) → b ≡ true → (M₁ t.memory x ≢ M₁ m' x → b ≡ false) → Same t.memory m' x
      by x b h f = go (ℕ_discrete (M₁ t.memory x) (M₁ m' x))
        where
          go : Dec (M₁ t.memory x ≡ M₁ m' x) → Same t.memory m' x
          go (yes e) = e
          go (no e) = absurd (true≢false (sym h ∙ f e))

  started : Beside (Same t.memory m') (plain_from t) (plain_from (imaged t m'))
  unfolding plain_from plain_start
  started =
      record {
        machine = refl;
        log = refl;
        memory = record { rest = ap (through t.settings.window) d.rest; sizes = d.sizes; same = λ x e. e };
      }

  histories : Twins (Same t.memory m') (plain_from t) (plain_from (imaged t m'))
  histories = twins (Same t.memory m') (plain_from t) (plain_from (imaged t m')) started covers

  -- THE PLAIN ENGINE, whether it stops or not, and without the premise
  pub plain_part : (n : ℕ) → SameStep t.memory m' (steps (plain_from t) n) (steps (plain_from (imaged t m')) n)
  plain_part = same_step t.memory m' core01 (plain_from t) (plain_from (imaged t m')) histories

  -- THE SECOND RUN meets all that is asked of the first
  pub second_stops : (n : ℕ) → is_stopped (steps (plain_from t) n) ≡ is_stopped (steps (plain_from (imaged t m')) n)
  second_stops = stop_alike (Same t.memory m') (plain_from t) (plain_from (imaged t m')) histories

  pub second_premise : (K : ℕ) → Premise (plain_from t) K → Premise (plain_from (imaged t m')) K
  second_premise = premise_alike (Same t.memory m') (plain_from t) (plain_from (imaged t m')) started covers

  pub second_differs : DifferOnlyAt (NoPart (plain_from (imaged t m'))) m' t.memory
  second_differs =
      record {
        rest = sym (ap (λ (m : Memory). holding m t.memory.bytes) d.rest);
        sizes = sym d.sizes;
        only = λ x h. no_part_alike (Same t.memory m') (plain_from t) (plain_from (imaged t m')) started covers x (d.only x (λ e. h (sym e)));
      }

  -- THE PIPELINE: demand 3 on both
  pub pipe_part : (g : Core) → length t.registers ≡ 15 → (n : ℕ) → is_stopped (steps (plain_from t) n) ≡ true → Premise (plain_from t) n
      → (c : ℕ) → SameClock t.memory m' (clocks g (piped_from t) c) (clocks g (piped_from (imaged t m')) c)
  unfolding piped_from pipe_start
  pipe_part g l n h p =
      let t' = imaged t m' in
      let u = seen_on g (plain_from t) n h (premise_seen g (plain_from t) n p) in
      let u' = seen_on g (plain_from t') n (sym (second_stops n) ∙ h) (premise_seen g (plain_from t') n (second_premise n p)) in
      same_clocks t.memory m' g (plain_from t) (plain_from t') histories (piped_from t) (piped_from t') refl refl (always g t l u) (always g t' l u') (always_in_mid_run g t l u)
      (always_in_mid_run g t' l u')

pub no_part_lem : BytesThatPlayNoPart NoPart
no_part_lem g t m' l d budget stops u = (plain_part t m' d, pipe_part t m' d g l budget stops u)

-- and so may what is outside the instructions' bytes, for fetch looks at no others
looks_within : (s : Plain) (x : ℕ) → has_byte s x ≡ false → looks_at s x ≡ false
unfolding has_byte looks_at
looks_within s x h = go (leb a x) (ltb x (a + looked s.memory a)) (ltb x (code_end s.memory a)) refl refl refl
  where
    a : ℕ
    a = s.machine.address

    go : (b c d : Bool) → leb a x ≡ b → ltb x (a + looked s.memory a) ≡ c → ltb x (code_end s.memory a) ≡ d → b && (c && d) ≡ false
    go false c d e f k = refl
    go true false d e f k = refl
    go true true false e f k = refl
    go true true true e f k =
        let z = ltb-true x (a + looked s.memory a) f in
        absurd (true≢false (sym (cc (e, lt-ltb x (a + size_at s.memory a) (omega (arith, looked_within s.memory a)), k)) ∙ h))

pub by_01 : (s : Plain) (m m' : Memory) → DifferOnlyAt (NoPartAsIn01 s) m m' → DifferOnlyAt (NoPart s) m m'
by_01 s m m' d = record { rest = d.rest; sizes = d.sizes; only = λ x h. let z = d.only x h in (λ n r. looks_within (steps s n) x (z.0 n r), z.1) }

pub no_part_as_in_01 : BytesThatPlayNoPart NoPartAsIn01
no_part_as_in_01 g t m' l d = no_part_lem g t m' l (by_01 (plain_from t) t.memory m' d)

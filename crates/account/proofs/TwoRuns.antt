-- Demand 3 read for two runs from the same fresh start, neither refused: what a caller may compare who holds both answers. If the premise
-- reaches to the pipeline's last clock, or to the plain engine's stop, all that demand 3 speaks of; if to instruction k + 1, the first k + 1
-- lines of the logs.
use Prim.Native.Nat.{ℕ, zero, suc, ◌+◌, ◌-◌, ◌≤◌, ◌<◌}
use Rattle.std.specs.Prelude.{Bool, true, cond, ◌||◌, ◌≡◌, ltb, eqb, length, get_or}
use Rattle.std.proofs.Math.Bool.{false}
use Rattle.std.proofs.Common.{true≢false, ◌∙◌, ltb-false, eqb-true, length-append, get_or-append-add}
use mathlib.Core.List.{List, [], ◌∷◌, ◌++◌}
use Rattle.std.proofs.Math.Path.{refl, ap, sym, subst}
use native.Mathlib.Omega.{arith}
use Rattle.std.proofs.Math.Decide.{dec_lt}
use Rattle.std.proofs.lemmas.Bool.{eqb-false}
use Rattle.std.proofs.Math.ListN.{get_or-append}
use Rattle.account.specs.Names.{no_window, Machine, Pipeline}
use Rattle.machine.specs.Types.{is_bad}
use Rattle.machine.specs.Memory.{Memory, size, through}
use Rattle.machine.specs.Plain.{Plain, plain_of, plain_start, is_stopped, steps}
use Rattle.clocked.specs.Prediction.{Core, core_of}
use Rattle.clocked.specs.Charges.{due, due_cycles}
use Rattle.clocked.specs.Pipeline.{piped_of, pipe_start, clocks}
use Rattle.account.specs.Seen.{Seen}
use Rattle.machine.specs.Runs.{laid, size_refused, budget_refused, log_refused, window_refused, plain_limit, plain_answer, lowest}
use Rattle.clocked.specs.PipeRuns.{record_refused, pipe_limit, pipe_answer}
use Rattle.machine.specs.Runs.{plain_refusal, PlainAnswer, plain_done, plain_by, plain_run}
use Rattle.clocked.specs.PipeRuns.{pipe_refusal, PipeAnswer, pipe_done, pipe_by, pipe_run, pipe_run_unlogged}
use Rattle.account.specs.Statement.{Start, chosen, plain_from, piped_from, Agrees}
use Rattle.account.proofs.Laws.{step_logs}
use Rattle.laws.specs.Tests.{neither}
use Rattle.published.specs.Columns.{stays as step_still}
use Rattle.account.proofs.Timing.{up_to, due_most}
use Rattle.account.proofs.Sight.{seen_on}
use Rattle.account.proofs.Uses.{due_only, due_stopped, always}
use Rattle.account.specs.Prefix.{Begins}
use Rattle.account.proofs.Prefix.{begins_all, logs_begin}
use Rattle.account.proofs.Theorem.{demand3_seen}
use Rattle.account.specs.TwoRuns.{Covered, EndsAgree, Level, RunsAgree, pipe_answered, pipe_unlogged, plain_answered, to_the_clock, to_the_stop}

-- LOGS
-- a list l with x 0 to x (q - 1) in it
record Lists (l : List ℕ) (x : ℕ → ℕ) (q : ℕ) : Type 0 where
  long : length l ≡ q
  at : (i : ℕ) → i < q → get_or l i 0 ≡ x i

-- one that takes one more each time
listed : (l : ℕ → List ℕ) (x : ℕ → ℕ) (q : ℕ) → l 0 ≡ [] → ((n : ℕ) → n < q → l (suc n) ≡ l n ++ x n ∷ []) → Lists (l q) x q
listed l x zero e f = record { long = ap length e; at = λ i h. absurd (omega arith) }
listed l x (suc q) e f = go (listed l x q e (λ n h. f n (omega arith)))
  where
    grown : l (suc q) ≡ l q ++ x q ∷ []
    grown = f q (omega arith)

    go : Lists (l q) x q → Lists (l (suc q)) x (suc q)
    go r =
        record {
          long = ap length grown ∙ (length-append (l q) (x q ∷ []) ∙ omega (arith, r.long));
          at =
              up_to {P = λ (i : ℕ). get_or (l (suc q)) i 0 ≡ x i} q
              (λ i h. ap (λ (y : List ℕ). get_or y i 0) grown ∙ (get_or-append (l q) (x q ∷ []) 0 i (omega (arith, r.long)) ∙ r.at i h)) new;
        }
      where
        new : get_or (l (suc q)) q 0 ≡ x q
        new =
            let e : q ≡ length (l q) + 0 = omega (arith, r.long) in
            ap (λ (y : List ℕ). get_or y q 0) grown ∙ (ap (λ (i : ℕ). get_or (l q ++ x q ∷ []) i 0) e ∙ get_or-append-add (l q) (x q ∷ []) 0 0)

-- line i of a log laid over a lent one: as the list says with which it begins
laid_at : (es log : List ℕ) (i : ℕ) → i < length es → i < length log → get_or (laid es log) i 0 ≡ get_or es i 0
unfolding laid
laid_at [] log i h b = absurd (omega arith)
laid_at (e ∷ es) [] i h b = absurd (omega arith)
laid_at (e ∷ es) (x ∷ log) zero h b = refl
laid_at (e ∷ es) (x ∷ log) (suc i) h b = laid_at es log i (omega arith) (omega arith)

line : {es l : List ℕ} {x : ℕ → ℕ} {q : ℕ} → Begins es l → Lists l x q → (log : List ℕ) (i : ℕ) → i < q → i < length log → get_or (laid es log) i 0 ≡ x i
line {es} {l} b r log i h k =
    laid_at es log i (omega (arith, ap length b.whole, length-append l b.rest, r.long)) k
    ∙ (ap (λ (z : List ℕ). get_or z i 0) b.whole ∙ (get_or-append l b.rest 0 i (omega (arith, r.long)) ∙ r.at i h))

-- THE PLAIN HISTORY after b steps, of which q performed an instruction
record Performed (s : Plain) (b q : ℕ) : Type 0 where
  within : q ≤ b
  each : (i : ℕ) → i < q → is_stopped (steps s i) ≡ false
  settled : steps s b ≡ steps s q
  spent : is_stopped (steps s b) ≡ false → q ≡ b
  count : (steps s q).machine.count ≡ q

history : (s : Plain) → s.machine.count ≡ 0 → (b : ℕ) → (q : ℕ) × Performed s b q
unfolding steps
history s z zero = (0, record { within = omega arith; each = λ i h. absurd (omega arith); settled = refl; spent = λ _. refl; count = z })
history s z (suc b) = go (history s z b) (is_stopped (steps s b)) refl
  where
    go : (q : ℕ) × Performed s b q → (x : Bool) → is_stopped (steps s b) ≡ x → (q : ℕ) × Performed s (suc b) q
    go r true e =
        let still = step_still (steps s b) e in (
          r.0,
          record {
            within = omega (arith, r.1.within);
            each = r.1.each;
            settled = still ∙ r.1.settled;
            spent = λ h. absurd (true≢false (sym e ∙ (sym (ap is_stopped still) ∙ h)));
            count = r.1.count;
          },
        )
    go r false e =
        let same : r.0 ≡ b = r.1.spent e in (
          suc b,
          record {
            within = omega arith;
            each = up_to b (λ i h. r.1.each i (omega (arith, same))) e;
            settled = refl;
            spent = λ _. refl;
            count = omega (arith, (step_logs (steps s b) e).count, ap (λ (n : ℕ). (steps s n).machine.count) same, r.1.count, same);
          },
        )

-- REFUSALS: an answer 0 is a run, with logs long enough
ran : {A : Type 0} (number : A → ℕ) (n : ℕ) (x y : A) → number y ≡ n → number (cond (eqb n 0) x y) ≡ 0 → (cond (eqb n 0) x y ≡ x) × (n ≡ 0)
ran {A} number n x y k h = go (eqb n 0) refl h
  where
    go : (b : Bool) → eqb n 0 ≡ b → number (cond b x y) ≡ 0 → (cond b x y ≡ x) × (n ≡ 0)
    go true e h = (refl, eqb-true n 0 e)
    go false e h = absurd (eqb-false n 0 e (sym k ∙ h))

logs_fit : (a b c : Bool) (r : ℕ) → cond a 1 (cond b 3 (cond c 4 r)) ≡ 0 → c ≡ false
logs_fit true b c r h = absurd (omega arith)
logs_fit false true c r h = absurd (omega arith)
logs_fit false false true r h = absurd (omega arith)
logs_fit false false false r h = refl

plain_ran : (k : Machine) (m : Memory) (budget : ℕ) (log : List ℕ) → (plain_run k m budget log).number ≡ 0
    → (plain_run k m budget log ≡ plain_done (steps (plain_of k m) budget) log) × (budget ≤ length log)
unfolding plain_run plain_by plain_refusal lowest log_refused
plain_ran k m budget log h =
    let n = plain_refusal k.window (size m) k.count budget (length log ∷ []) in
    let r = ran (λ (x : PlainAnswer). x.number) n (plain_done (steps (plain_of k m) budget) log) (plain_answer n k m log) refl h in
    let f = logs_fit (size_refused (size m)) (budget_refused plain_limit k.count budget) (ltb (length log) budget || false) (cond (window_refused k.window (size m)) 5 0) r.1 in
    (r.0, ltb-false (length log) budget (neither (ltb (length log) budget) false f).0)

pipe_ran : (k : Pipeline) (m : Memory) (budget : ℕ) (a y : List ℕ) → (pipe_run k m budget a y).number ≡ 0
    → (pipe_run k m budget a y ≡ pipe_done (clocks (core_of k.settings) (piped_of k m) budget) a y) × (budget ≤ length a) × (budget ≤ length y)
unfolding pipe_run pipe_by pipe_refusal lowest log_refused
pipe_ran k m budget a y h =
    let n = pipe_refusal k (size m) budget (length a ∷ length y ∷ []) in
    let r = ran (λ (x : PipeAnswer). x.number) n (pipe_done (clocks (core_of k.settings) (piped_of k m) budget) a y) (pipe_answer n k m a y) refl h in
    let b = ltb (length y) budget || false in
    let f = logs_fit (size_refused (size m)) (budget_refused pipe_limit k.cycles budget) (ltb (length a) budget || b) (cond (record_refused k || window_refused k.settings.window (size m)) 5 0) r.1 in
    let e = neither (ltb (length a) budget) b f in
    (r.0, ltb-false (length a) budget e.0, ltb-false (length y) budget (neither (ltb (length y) budget) false e.1).0)

pub unlogged_ran : (k : Pipeline) (m : Memory) (budget : ℕ) → (pipe_run_unlogged k m budget).number ≡ 0
    → (pipe_run_unlogged k m budget ≡ pipe_done (clocks (core_of k.settings) (piped_of k m) budget) [] []) × (pipe_refusal k (size m) budget [] ≡ 0)
unfolding pipe_run_unlogged pipe_by
unlogged_ran k m budget h =
    let n = pipe_refusal k (size m) budget [] in
    ran (λ (x : PipeAnswer). x.number) n (pipe_done (clocks (core_of k.settings) (piped_of k m) budget) [] []) (pipe_answer n k m [] []) refl h

-- "the limit is 262,145, which covers any 65,536 instructions"
pub limit_covers : (g : Core) (s : Plain) → due g s plain_limit ≤ pipe_limit
limit_covers g s = due_most g s 65535

pub level : (t : Start) (budget clocked : ℕ) (x : PlainAnswer) (y : PipeAnswer) → EndsAgree t budget clocked x y
    → x.machine.count ≡ y.pipeline.retired → Level x y
level t budget clocked x y r e =
    let m = r.plain.0 in
    let n = r.plain.1 in
    record { registers = cc; status = cc; last = cc; blame = cc; stopped = λ h. let w = r.stopped h in (cc w.0, cc w.1) }

module _ (g : Core) (t : Start) where
  -- what the first n lines of the logs say
  log_at : (n : ℕ) → ((i : ℕ) → i < n → is_stopped (steps (plain_from t) i) ≡ false)
      → Lists (steps (plain_from t) n).log (λ i. (steps (plain_from t) i).machine.address) n
  unfolding steps plain_from
  log_at n f =
      listed (λ i. (steps (plain_from t) i).log) (λ i. (steps (plain_from t) i).machine.address) n refl (λ i h. (step_logs (steps (plain_from t) i) (f i h)).log)

  due_at : (n : ℕ) → Lists (due_cycles g (plain_from t) n) (λ i. due g (plain_from t) (suc i)) n
  unfolding due_cycles
  due_at n = listed (due_cycles g (plain_from t)) (λ i. due g (plain_from t) (suc i)) n refl (λ i h. refl)

module _ (t : Start) (budget clocked : ℕ) (log addresses cycles : List ℕ) where
  abbrev g : Core
  g = chosen t

  module _ (q : ℕ) (x : Performed (plain_from t) budget q) where
    counts : (steps (plain_from t) budget).machine.count ≡ q
    counts = ap (λ (s : Plain). s.machine.count) x.settled ∙ x.count

    -- the plain answer is settled
    there : steps (plain_from t) budget ≡ steps (plain_from t) (steps (plain_from t) budget).machine.count
    there = x.settled ∙ ap (steps (plain_from t)) (sym counts)

    plain_line_lem : budget ≤ length log → (i : ℕ) → i < q → get_or (laid (steps (plain_from t) budget).log log) i 0 ≡ (steps (plain_from t) i).machine.address
    plain_line_lem a i h = line (begins_all (ap (λ (s : Plain). s.log) x.settled)) (log_at g t q x.each) log i h (omega (arith, x.within))

    module _ (n : ℕ) (y : Agrees g (plain_from t) (clocks g (piped_from t) clocked) clocked n) where
      -- no more retire than clocks were made
      within : n ≤ clocked
      unfolding due
      within = go (dec_lt 0 n)
        where
          go : Dec (0 < n) → n ≤ clocked
          go (yes h) = omega (arith, y.exactly.arrived (n - 1) (omega arith))
          go (no h) = omega arith

      stopped_at_n : is_bad (clocks g (piped_from t) clocked).pipeline.status ≡ true → is_stopped (steps (plain_from t) n) ≡ true
      unfolding is_stopped
      stopped_at_n h = sym (ap is_bad y.status) ∙ h

      -- both stopped, or out of budget
      meet : is_stopped (steps (plain_from t) n) ≡ true → n ≤ budget → q ≡ n
      meet h b = go (dec_lt q n) (dec_lt n q)
        where
          go : Dec (q < n) → Dec (n < q) → q ≡ n
          go (yes z) _ = absurd (omega (arith, x.spent (ap is_stopped x.settled ∙ y.exactly.performed q z)))
          go (no _) (yes z) = absurd (true≢false (sym h ∙ x.each n z))
          go (no z) (no w) = omega arith

      ends_agree : (a b : List ℕ) → EndsAgree t budget clocked (plain_done (steps (plain_from t) budget) log) (pipe_done (clocks g (piped_from t) clocked) a b)
      unfolding plain_done pipe_done is_stopped
      ends_agree a b =
          let e = y.retired in
          record {
            plain = (ap (λ (s : Plain). s.machine) there, ap (λ (s : Plain). through no_window s.memory) there);
            exactly = rw e y.exactly;
            kinds = rw e y.kinds;
            registers = rw e y.registers;
            status = rw e y.status;
            last = rw e y.last;
            blame = rw e y.blame;
            running = λ h. rw e (y.kept h, y.running h);
            stopped = λ h. let w = y.stopped h in rw e (ap (through no_window) w.0, w.1, w.2);
            plain_stopped = λ h z.
                let by : due g (plain_from t) q ≤ clocked = subst (λ (m : ℕ). due g (plain_from t) m ≤ clocked) counts z in
                let all = due_stopped g (plain_from t) clocked q x.each (sym (ap is_stopped x.settled) ∙ h) by in
                counts ∙ (due_only g (plain_from t) clocked q n all y.exactly ∙ sym e);
            pipe_stopped = λ h z. counts ∙ (meet (stopped_at_n h) (omega arith) ∙ sym e);
          }

      runs_agree : budget ≤ length log → clocked ≤ length addresses → clocked ≤ length cycles
          → RunsAgree t budget clocked (plain_done (steps (plain_from t) budget) log) (pipe_done (clocks g (piped_from t) clocked) addresses cycles)
      unfolding plain_done pipe_done
      runs_agree a b c =
          let e = y.retired in
          record {
            ends = ends_agree addresses cycles;
            addresses = λ i h k.
                plain_line_lem a i (omega (arith, counts))
                ∙ sym (line (begins_all y.addresses) (log_at g t n y.exactly.performed) addresses i (omega arith) (omega (arith, within)));
            cycles = λ i h. line (begins_all y.cycles) (due_at g t n) cycles i (omega arith) (omega (arith, within));
          }

  module _ (l : length t.registers ≡ 15) (x : (plain_answered t budget log).number ≡ 0) where
    -- the plain run's history, and what demand 3 says of the pipeline's
    performed : (q : ℕ) × Performed (plain_from t) budget q
    unfolding plain_from plain_start
    performed = history (plain_from t) refl budget

    plain_is : (plain_answered t budget log ≡ plain_done (steps (plain_from t) budget) log) × (budget ≤ length log)
    unfolding plain_from
    plain_is = plain_ran (plain_from t).machine t.memory budget log x

    agreed : Covered t clocked (plain_answered t budget log) → (n : ℕ) × Agrees g (plain_from t) (clocks g (piped_from t) clocked) clocked n
    unfolding plain_done is_stopped
    agreed (to_the_clock k u q) = demand3_seen g t l k u clocked q
    agreed (to_the_stop h u) =
        let e = ap (λ (z : PlainAnswer). z.machine) plain_is.0 in
        let q = performed.1 in
        let same = ap (λ m. m.count) e ∙ counts performed.0 q in
        let stopped = sym (ap is_stopped q.settled) ∙ (sym (ap (λ m. is_bad m.status) e) ∙ h) in
        always g t l (seen_on g (plain_from t) performed.0 stopped (subst (Seen g (plain_from t)) same u)) clocked

    -- TWO RUNS, neither refused, as far as the premise reaches
    pub two_runs : (pipe_answered t clocked addresses cycles).number ≡ 0 → Covered t clocked (plain_answered t budget log)
        → RunsAgree t budget clocked (plain_answered t budget log) (pipe_answered t clocked addresses cycles)
    unfolding piped_from pipe_start
    two_runs y c =
        let b = pipe_ran (piped_from t).pipeline t.memory clocked addresses cycles y in
        let d = agreed c in
        rw (plain_is.0, b.0) (runs_agree performed.0 performed.1 d.0 d.1 plain_is.1 b.1 b.2)

    -- and where the pipeline's run is one without logs
    pub unlogged_too : (pipe_unlogged t clocked).number ≡ 0 → Covered t clocked (plain_answered t budget log)
        → EndsAgree t budget clocked (plain_answered t budget log) (pipe_unlogged t clocked)
    unfolding piped_from pipe_start
    unlogged_too y c =
        let d = agreed c in
        rw (plain_is.0, (unlogged_ran (piped_from t).pipeline t.memory clocked y).0) (ends_agree performed.0 performed.1 d.0 d.1 [] [])

    -- the premise up to instruction k + 1 alone: its line and those before it, where the plain engine performed it and it is due
    pub first_lines : (pipe_answered t clocked addresses cycles).number ≡ 0 → (k : ℕ) → Seen g (plain_from t) (suc k)
        → k < (plain_answered t budget log).machine.count → due g (plain_from t) (suc k) ≤ clocked → (i : ℕ) → i < suc k
        → (get_or (plain_answered t budget log).log i 0 ≡ get_or (pipe_answered t clocked addresses cycles).addresses i 0)
        × (get_or (pipe_answered t clocked addresses cycles).cycles i 0 ≡ due g (plain_from t) (suc i))
    unfolding piped_from pipe_start plain_done pipe_done due
    first_lines y k u h d i b =
        let p = pipe_ran (piped_from t).pipeline t.memory clocked addresses cycles y in
        let r = performed in
        let k' : k < r.0 = omega (arith, ap (λ (z : PlainAnswer). z.machine.count) plain_is.0, counts r.0 r.1) in
        let f = logs_begin g t l k u (r.1.each k k') clocked d in
        let each : (j : ℕ) → j < suc k → is_stopped (steps (plain_from t) j) ≡ false = λ j z. r.1.each j (omega arith) in
        let one = plain_line_lem r.0 r.1 plain_is.1 i (omega arith) in
        let other = line f.0 (log_at g t (suc k) each) addresses i b (omega arith) in
        rw (plain_is.0, p.0) (one ∙ sym other, line f.1 (due_at g t (suc k)) cycles i b (omega arith))

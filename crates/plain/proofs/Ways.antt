-- One law for each way out of a function, over variables for what its callees gave. Assumes nothing.
use mathlib.Core.Path.{◌≡◌, refl, ap, sym, ◌∙◌}
use mathlib.Core.Bool.{Bool, true, false, not, cond}
use mathlib.Core.List.{List, [], ◌∷◌, ◌++◌}
use Prim.Native.Nat.{ℕ, ◌+◌, ◌≤◌, ◌<◌}
use native.Mathlib.Omega.{arith}
use native.Mathlib.Numerals.{add-one}
use borrow.Author.Tests.{ne_eqb, ltb-false}
use denote.Enum.Bare.{sameb}
use Rattle.machine.specs.contracts.Status.{the_type}
use Rattle.answers.specs.declared.Refusal.{Refusal}
use Rattle.answers.specs.Numbers.{refusal_number, numbered}
use lib.Dec.{eqb, ltb}
use lib.ListN.{length, set, length-append}
use Rattle.machine.specs.declared.Status.{Status}
use Rattle.machine.specs.declared.Status.TheVariants.{Aok as aok, Hlt as hlt, Adr as adr, Ins as ins}
use Rattle.machine.specs.Types.{no_window}
use Rattle.machine.specs.declared.Instruction.{Instruction}
use Rattle.machine.specs.declared.Decoded.{Decoded}
use Rattle.machine.specs.declared.Executed.{Executed}
use Rattle.machine.specs.declared.Accessed.{Accessed}
use Rattle.machine.specs.declared.Blame.{Blame}
use Rattle.machine.specs.declared.Machine.{Machine}
use Rattle.machine.specs.Types.{is_bad}
use Rattle.machine.specs.Memory.{Memory, size, through, value}
use Rattle.machine.specs.Fetch.{fetch, blame_of}
use Rattle.machine.specs.Stages.{decode, execute, access, new_memory}
use Rattle.machine.specs.Plain.{Plain, plain_of, is_stopped, fetched, decoded, executed, accessed, performed, stopped_by, step, steps}
use Rattle.machine.specs.Runs.{laid, lowest, size_refused, budget_refused, log_refused, plain_limit}
use Rattle.machine.specs.Runs.{plain_refusal, PlainAnswer, plain_answer, plain_done, plain_by, plain_run, plain_step}
use Rattle.plain.specs.Records.{after_performed, after_stop, RunsTo}
use Rattle.answers.specs.Refusals.{failed}
use Rattle.laws.specs.Tests.{neither}
use Rattle.laws.specs.Window.{written_through}
use Rattle.answers.specs.Logs.{laid_more, laid_none}
use Rattle.plain.specs.Steps.{bare, behind, seen, step_bare, step_logs, step_counts, still_on}

-- ONE INSTRUCTION
module _ (m : Machine) (mem : Memory) (i : Instruction) (x : Decoded) (e : Executed) (w : Accessed) (b : Bool)
    (runs : is_bad m.status ≡ false) (hi : i ≡ fetch (through m.window mem) m.address) (hx : x ≡ decode i (value m.registers))
    (he : e ≡ execute x m.codes) (hw : w ≡ access e (through m.window mem)) (hb : b ≡ is_bad w.status) where
  pub stops : (r : Machine) (z : Blame) → b ≡ true → z ≡ blame_of (through m.window mem) i → r ≡ after_stop m w.status z
      → (r ≡ (step (plain_of m mem)).machine) × (through no_window mem ≡ through no_window (step (plain_of m mem)).memory)
  unfolding step is_stopped accessed executed decoded fetched stopped_by after_stop
  stops r z t hz q = (cc, cc)

  pub performs : (r : Machine) (mem' : Memory) → b ≡ false → mem' ≡ new_memory e mem → r ≡ after_performed m x w
      → (r ≡ (step (plain_of m mem)).machine) × (through no_window mem' ≡ through no_window (step (plain_of m mem)).memory)
  unfolding step is_stopped accessed executed decoded fetched performed after_performed
  performs r mem' t p q = (cc, cc (written_through m.window e mem mem' p))

-- THE LOOP
-- a status told from AOK by the derived test
pub bad_by_test : (t : Status) (x b : Bool) → x ≡ not (sameb the_type t aok) → x ≡ b → is_bad t ≡ b
unfolding is_bad
bad_by_test aok x b e f = sym e ∙ f
bad_by_test hlt x b e f = sym e ∙ f
bad_by_test adr x b e f = sym e ∙ f
bad_by_test ins x b e f = sym e ∙ f

-- n instructions have been performed and logged, and none but the budget's are left
pub record Goes (k : Machine) (m : Memory) (budget : ℕ) (l : List ℕ) (s : Machine) (m' : Memory) (l' : List ℕ) (n : ℕ) : Type 0 where
  pub so_far : RunsTo k m n l s m' l'
  pub logged : length (steps (plain_of k m) n).log ≡ n
  pub counted : s.count + budget ≤ plain_limit + n
  pub within : n ≤ budget
  pub memory_long : size m' ≡ size m

pub goes_first : (k : Machine) (m : Memory) (budget : ℕ) (l : List ℕ) → k.count + budget ≤ plain_limit → Goes k m budget l k (through no_window m) l 0
unfolding steps laid
goes_first k m budget l h =
    record {
      so_far = record { machine_is = refl; memory_is = refl; log_is = refl };
      logged = refl;
      counted = omega arith;
      within = omega arith;
      memory_long = refl;
    }

module _ (k : Machine) (m : Memory) (budget : ℕ) (l : List ℕ) (s : Machine) (m₁ : Memory) (l₁ : List ℕ) (n : ℕ) (g : Goes k m budget l s m₁ l₁ n) where
  now : Plain
  now = steps (plain_of k m) n

  bare_now : bare now ≡ plain_of s m₁
  unfolding now
  bare_now = cc (g.so_far.machine_is, g.so_far.memory_is)

  runs_now : is_bad s.status ≡ false → is_stopped now ≡ false
  unfolding now is_stopped
  runs_now h = cc g.so_far.machine_is

  next_step : step now ≡ behind now.log (step (plain_of s m₁))
  unfolding now
  next_step = step_bare now (seen k m n) ∙ ap (λ (x : Plain). behind now.log (step x)) bare_now

  next_log : is_bad s.status ≡ false → (step now).log ≡ now.log ++ s.address ∷ []
  unfolding now
  next_log h = step_logs now (runs_now h) ∙ ap (λ (x : Machine). now.log ++ x.address ∷ []) (sym g.so_far.machine_is)

  pub goes_on_lem : (s₂ : Machine) (m₂ : Memory) (l₂ : List ℕ) → n < budget → is_bad s.status ≡ false → size m₂ ≡ size m₁
      → l₂ ≡ set l₁ n s.address
      → (s₂ ≡ (step (plain_of s m₁)).machine) × (m₂ ≡ through no_window (step (plain_of s m₁)).memory) → Goes k m budget l s₂ m₂ l₂ (n + 1)
  unfolding now steps
  goes_on_lem s₂ m₂ l₂ lt run long hl hs =
      let same : steps (plain_of k m) (n + 1) ≡ step now = ap (steps (plain_of k m)) (add-one n) in
      let log_is : l₂ ≡ laid (step now).log l =
      hl ∙ (ap (λ (x : List ℕ). set x n s.address) g.so_far.log_is
      ∙ (ap (λ (x : ℕ). set (laid now.log l) x s.address) (sym g.logged) ∙
      (sym (laid_more now.log l s.address) ∙ ap (λ (x : List ℕ). laid x l) (sym (next_log run))))) in
      record {
        so_far =
            record {
              machine_is = hs.0 ∙ sym (ap (λ (x : Plain). x.machine) (same ∙ next_step));
              memory_is = hs.1 ∙ sym (ap (λ (x : Plain). through no_window x.memory) (same ∙ next_step));
              log_is = log_is ∙ sym (ap (λ (x : Plain). laid x.log l) same);
            };
        logged =
            ap (λ (x : Plain). length x.log) same ∙
            (ap length (next_log run) ∙ (length-append now.log (s.address ∷ []) ∙ ap (λ (x : ℕ). x + 1) g.logged));
        counted = omega (arith, g.counted, step_counts (plain_of s m₁), ap (λ (x : Machine). x.count) hs.0);
        within = omega arith;
        memory_long = long ∙ g.memory_long;
      }

  pub goes_over : is_bad s.status ≡ true → RunsTo k m budget l s m₁ l₁
  unfolding now is_stopped
  goes_over over =
      let stopped : is_stopped now ≡ true = cc g.so_far.machine_is in
      let same = still_on (plain_of k m) n budget g.within stopped in
      record {
        machine_is = g.so_far.machine_is ∙ sym (ap (λ (x : Plain). x.machine) same);
        memory_is = g.so_far.memory_is ∙ sym (ap (λ (x : Plain). through no_window x.memory) same);
        log_is = g.so_far.log_is ∙ sym (ap (λ (x : Plain). laid x.log l) same);
      }

-- THE ENTRIES, by the number that the check of the arguments gave
module _ (k : Machine) (m : Memory) (budget : ℕ) (log : List ℕ) where
  pub refuses : (why : Refusal) → refusal_number why ≡ plain_refusal k.window (size m) k.count budget (length log ∷ [])
      → plain_answer (refusal_number why) k m log ≡ plain_run k m budget log
  unfolding plain_run plain_by
  refuses why h = cc (ne_eqb (refusal_number why) 0 (numbered why))

  module _ (h : 0 ≡ plain_refusal k.window (size m) k.count budget (length log ∷ [])) where
    pub within_limit : k.count + budget ≤ plain_limit
    unfolding plain_refusal lowest budget_refused
    within_limit =
        let p = failed (size_refused (size m)) 0 _ (sym h) in
        let q = failed (budget_refused plain_limit k.count budget) 2 _ p.1 in
        ltb-false plain_limit (k.count + budget) (neither (eqb budget 0) (ltb plain_limit (k.count + budget)) q.0).1

    pub ends : (r : Machine) (m' : Memory) (l' : List ℕ) → RunsTo k m budget log r m' l' → plain_answer 0 r m' l' ≡ plain_run k m budget log
    unfolding plain_run plain_by plain_done
    ends r m' l' e = cc (e.machine_is, e.memory_is, e.log_is)

-- a run of 1 with a log of 1 is a step, but for what it logs
pub one_step : (k : Machine) (m : Memory) (n : ℕ) (r : Machine) (m' : Memory) (x : ℕ) (l' : List ℕ)
    → plain_answer n r m' l' ≡ plain_run k m 1 (x ∷ []) → plain_answer n r m' [] ≡ plain_step k m
unfolding plain_run plain_step plain_by plain_done plain_refusal log_refused
one_step k m n r m' x l' e = ap bare e ∙ go (eqb (plain_refusal k.window (size m) k.count 1 []) 0)
  where
    bare : PlainAnswer → PlainAnswer
    bare o = plain_answer o.number o.machine o.memory []

    go : (b : Bool) → bare (cond b (plain_done (steps (plain_of k m) 1) (x ∷ [])) (plain_answer (plain_refusal k.window (size m) k.count 1 []) k m (x ∷ [])))
        ≡ cond b (plain_done (steps (plain_of k m) 1) []) (plain_answer (plain_refusal k.window (size m) k.count 1 []) k m [])
    go true = simp laid_none
    go false = refl

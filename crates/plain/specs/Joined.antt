-- Running a, then b, equals running a + b, logs joined, where none of the three is refused. Assumes nothing.
use Rattle.std.specs.Prelude.{◌≡◌, refl, Bool, true, false, cond, ℕ, zero, suc, ◌+◌, eqb, length, take, drop}
use Rattle.std.proofs.Math.Path.{ap, sym}
use Rattle.std.proofs.Common.{◌∙◌, arith}
use mathlib.Core.List.{List, [], ◌∷◌, ◌++◌}
use Rattle.machine.specs.Types.{no_window}
use Rattle.machine.specs.declared.Machine.{Machine}
use Rattle.machine.specs.Memory.{Memory, size, through}
use Rattle.machine.specs.Plain.{Plain, plain_of, step, steps}
use Rattle.machine.specs.Runs.{laid, size_refused, budget_refused, lowest, plain_refusal, PlainAnswer, plain_answer, plain_done, plain_by, plain_run}
use Rattle.answers.specs.Logs.{laid_joined}
use Rattle.answers.specs.Refusals.{ran}
use Rattle.answers.specs.Joined.{Engine, moved}
use Rattle.plain.specs.Steps.{bare, behind, seen, step_bare, steps_add, steps_bare}

-- how many instructions a run of a performs
abbrev pub performed_in : Machine → Memory → ℕ → ℕ
performed_in k m a = length (steps (plain_of k m) a).log

-- the answer of a run of b from where a run of a ended, with the places of the log that are left
abbrev pub going_on : Machine → Memory → ℕ → ℕ → List ℕ → PlainAnswer
going_on k m a b log =
    let one = plain_run k m a log in
    plain_run one.machine one.memory b (drop (performed_in k m a) one.log)

-- a run that is not refused, with a log or without
done : (logs : List ℕ) (k : Machine) (m : Memory) (a : ℕ) (log : List ℕ) → (plain_by logs k m a log).number ≡ 0
    → plain_by logs k m a log ≡ plain_done (steps (plain_of k m) a) log
unfolding plain_by
done logs k m a log h = ran (λ o. o.number) (plain_refusal k.window (size m) k.count a logs) _ _ refl h

done_run : (k : Machine) (m : Memory) (a : ℕ) (log : List ℕ) → (plain_run k m a log).number ≡ 0 → plain_run k m a log ≡ plain_done (steps (plain_of k m) a) log
unfolding plain_run
done_run k m a log h = done (length log ∷ []) k m a log h

-- the three runs on the definitions' own states
module _ (k : Machine) (m : Memory) (a b : ℕ) (log : List ℕ) where
  first : Plain
  first = steps (plain_of k m) a

  second : Plain
  second = steps (bare first) b

  both : steps (plain_of k m) (b + a) ≡ behind first.log second
  unfolding first second
  both = steps_add (plain_of k m) a b ∙ steps_bare first b (seen k m a)

  second_is : (plain_run k m a log).number ≡ 0 → (going_on k m a b log).number ≡ 0
      → going_on k m a b log ≡ plain_done second (drop (length first.log) (laid first.log log))
  unfolding first second plain_done
  second_is h₁ h₂ =
      let e = done_run k m a log h₁ in
      done_run _ _ b _ h₂ ∙ ap (λ (o : PlainAnswer). plain_done (steps (plain_of o.machine o.memory) b) (drop (performed_in k m a) o.log)) e

  pub joined : (plain_run k m a log).number ≡ 0 → (going_on k m a b log).number ≡ 0 → (plain_run k m (b + a) log).number ≡ 0
      → plain_run k m (b + a) log
      ≡ plain_answer 0 (going_on k m a b log).machine (going_on k m a b log).memory
      (take (performed_in k m a) (plain_run k m a log).log ++ (going_on k m a b log).log)
  unfolding first second plain_done
  joined h₁ h₂ h₃ =
      done_run k m (b + a) log h₃
      ∙ (ap (λ (s : Plain). plain_done s log) both
      ∙ (ap (λ (l : List ℕ). plain_answer 0 second.machine (through no_window second.memory) l) (laid_joined first.log second.log log)
      ∙ sym
      (ap (λ (o : PlainAnswer). plain_answer 0 o.machine o.memory (take (performed_in k m a) (plain_run k m a log).log ++ o.log)) (second_is h₁ h₂)
      ∙ ap (λ (o : PlainAnswer). plain_answer 0 second.machine (through no_window second.memory)
      (take (performed_in k m a) o.log ++ laid second.log (drop (length first.log) (laid first.log log)))) (done_run k m a log h₁))))

-- WITHOUT A LOG
-- record and memory as an answer gives them back
abbrev given : Machine × Memory → Machine × Memory
given x = (x.0, through no_window x.1)

-- after a step
unfoldable pub stepped : Machine × Memory → Machine × Memory
stepped x = let s = step (plain_of x.0 x.1) in given (s.machine, s.memory)

-- what so many steps leave, though each logs
steps_moved : (k : Machine) (m : Memory) (n : ℕ) → let s = steps (plain_of k m) n in given (s.machine, s.memory) ≡ given (moved stepped (k, m) n)
unfolding steps moved stepped
steps_moved k m zero = refl
steps_moved k m (suc n) =
    let s = steps (plain_of k m) n in
    ap (λ (t : Plain). given (t.machine, t.memory)) (step_bare s (seen k m n)) ∙ ap stepped (steps_moved k m n)

-- a budget of 0 is refused
none_made : (k : Machine) (m : Memory) → (plain_by [] k m 0 []).number ≡ 0 → ⊥
unfolding plain_by plain_refusal lowest budget_refused
none_made k m h = go (size_refused (size m)) h
  where
    go : (b : Bool) → let n : ℕ = cond b 1 3 in (cond (eqb n 0) (plain_done (steps (plain_of k m) 0) []) (plain_answer n k m [])).number ≡ 0 → ⊥
    go true h = omega (arith, h)
    go false h = omega (arith, h)

pub ran_moved : (k : Machine) (m : Memory) (n : ℕ) → (plain_by [] k m n []).number ≡ 0
    → let o = plain_by [] k m n [] in (o.machine, o.memory) ≡ moved stepped (k, m) n
unfolding plain_done moved stepped
ran_moved k m zero h = absurd (none_made k m h)
ran_moved k m (suc n) h = ap (λ (o : PlainAnswer). (o.machine, o.memory)) (done [] k m (suc n) [] h) ∙ steps_moved k m (suc n)

-- the plain engine without a log: `answers` `Joined` `joined` and `ones_join` hold of it, and a run of 1 is a step
unfoldable pub unlogged : Engine
unlogged =
    record {
      State = Machine × Memory;
      move = stepped;
      run = λ x n. let o = plain_by [] x.0 x.1 n [] in (o.number, (o.machine, o.memory));
      moves = λ x n h. ran_moved x.0 x.1 n h;
    }

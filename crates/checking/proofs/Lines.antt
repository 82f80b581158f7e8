-- One law for each way out of the functions that judge a line. Assumes nothing.
use mathlib.Core.Path.{◌≡◌, refl, ap, ◌∙◌}
use mathlib.Core.Bool.{Bool, true, false, cond}
use mathlib.Core.List.{List, []}
use Prim.Native.Nat.{ℕ, ◌+◌, ◌<◌}
use native.Mathlib.Omega.{arith}
use lib.ListN.{length, drop}
use borrow.Author.Tests.{le-ltb}
use Rattle.machine.specs.declared.Accessed.{Accessed}
use Rattle.machine.specs.declared.Executed.{Executed}
use Rattle.machine.specs.declared.Machine.{Machine}
use Rattle.machine.specs.Types.{no_window}
use Rattle.clocked.specs.declared.Reason.{Reason}
use Rattle.std.specs.Prelude.{Option, Some, None}
use Rattle.clocked.specs.Record.{last_kept}
use Rattle.machine.specs.Memory.{lent, through, value}
use Rattle.machine.specs.Stages.{access, new_registers}
use Rattle.machine.specs.Plain.{plain_of, executed, accessed, step, steps}
use Rattle.machine.specs.Runs.{size_refused, window_refused, budget_refused, log_refused, lowest, plain_limit, plain_refusal, PlainAnswer, plain_answer, plain_done, plain_by, plain_step}
use Rattle.clocked.specs.Prediction.{Core}
use Rattle.clocked.specs.Charges.{amount, reason_from, retired_of}
use Rattle.trace.specs.Line.{target_of, trace_line}
use Rattle.trace.specs.Verdict.{begins}
use Rattle.checking.specs.declared.Checking.{Checking}
use Rattle.checking.specs.Stores.{store_by}
use Rattle.checking.specs.State.{charged_next, line_due, DueLine, passed_on}

-- THE LINE THAT IS DUE, and what the look for it gave
module _ (g : Core) (trace m : List ℕ) (c : Checking) (x : Executed) (w : Accessed) (reason : Option Reason) (charge target v : ℕ) (p : Option ℕ)
    (e : x ≡ executed (plain_of c.machine (lent m))) (f : w ≡ access x (through c.machine.window (lent m))) (h : reason ≡ reason_from g c.kept w.instruction)
    (j : charge ≡ amount reason) (k : target ≡ target_of w) (l : v ≡ value (new_registers w c.machine.registers) target)
    (q : (let line = trace_line (c.machine.count + 1) c.machine.address (c.machine.count + 1 + 4 + (c.charged + charge)) target v in
    p ≡ cond (begins line (drop c.at trace)) (Some (c.at + length line)) None)) where
  w_is : w ≡ access (executed (plain_of c.machine (lent m))) (through c.machine.window (lent m))
  w_is = f ∙ ap (λ (y : Executed). access y (through c.machine.window (lent m))) e

  line_is : trace_line (c.machine.count + 1) c.machine.address (c.machine.count + 1 + 4 + (c.charged + charge)) target v ≡ line_due g c (lent m)
  unfolding accessed line_due charged_next
  line_is = rw (l, k, j, h, w_is)

  looked : p ≡ cond (begins (line_due g c (lent m)) (drop c.at trace)) (Some (c.at + length (line_due g c (lent m)))) None
  looked = q ∙ ap (λ (line : List ℕ). cond (begins line (drop c.at trace)) (Some (c.at + length line)) None) line_is

  told : (b : Bool) → begins (line_due g c (lent m)) (drop c.at trace) ≡ b → p ≡ cond b (Some (c.at + length (line_due g c (lent m)))) None
  told b z = looked ∙ ap (λ (y : Bool). cond y (Some (c.at + length (line_due g c (lent m)))) None) z

  pub another : p ≡ None → begins (line_due g c (lent m)) (drop c.at trace) ≡ false
  another z = go (begins (line_due g c (lent m)) (drop c.at trace)) refl
    where
      go : (b : Bool) → begins (line_due g c (lent m)) (drop c.at trace) ≡ b → begins (line_due g c (lent m)) (drop c.at trace) ≡ false
      go true y =
          let t : p ≡ Some (c.at + length (line_due g c (lent m))) = told true y in
          absurd (cc)
      go false y = y

  pub due_is : (next : ℕ) → p ≡ Some next → DueLine g trace c (lent m) x w (c.charged + charge) next
  unfolding accessed charged_next
  due_is next z = go (begins (line_due g c (lent m)) (drop c.at trace)) refl
    where
      go : (b : Bool) → begins (line_due g c (lent m)) (drop c.at trace) ≡ b → DueLine g trace c (lent m) x w (c.charged + charge) next
      go true y =
          let t : p ≡ Some (c.at + length (line_due g c (lent m))) = told true y in
          record {
            executed_is = e;
            accessed_is = w_is;
            charged_is = ap (λ (n : ℕ). c.charged + n) (j ∙ (ap amount h ∙ ap (λ (y : Accessed). amount (reason_from g c.kept y.instruction)) w_is));
            begins_it = y;
            next_is = cc;
          }
      go false y =
          let t : p ≡ None = told false y in
          absurd (cc)

-- THE STEP
module _ (k k' : Machine) (m m' : List ℕ) (n : ℕ) (few : k.count < 65536) (size : size_refused (length m) ≡ false) (window : window_refused k.window (length m) ≡ false)
    (answer : plain_answer n k' (lent m') [] ≡ plain_step k (lent m)) where
  not_refused : plain_step k (lent m) ≡ plain_done (steps (plain_of k (lent m)) 1) []
  unfolding plain_step plain_by plain_refusal lowest budget_refused log_refused
  not_refused = rw (size, le-ltb plain_limit (k.count + 1) (omega arith), window)

  pub made : n ≡ 0
  unfolding plain_done
  made = ap (λ (a : PlainAnswer). a.number) (answer ∙ not_refused)

  pub stepped : (k' ≡ (step (plain_of k (lent m))).machine) × (lent m' ≡ through no_window (step (plain_of k (lent m))).memory)
  unfolding plain_done steps
  stepped =
      let e = answer ∙ not_refused in
      (ap (λ (a : PlainAnswer). a.machine) e, ap (λ (a : PlainAnswer). a.memory) e)

pub passed_on_lem : (c : Checking) (m m' : List ℕ) (k : Machine) (n : ℕ) (x : Executed) (w : Accessed) (charged next : ℕ) (s : Option ℕ) → c.machine.count < 65536
    → size_refused (length m) ≡ false → window_refused c.machine.window (length m) ≡ false → s ≡ store_by x (lent m) → plain_answer n k (lent m') [] ≡ plain_step c.machine (lent m)
    → ◌≡◌ {A = Checking} (record {
      machine = k;
      charged = charged;
      kept = last_kept (retired_of w);
      stores = record { first = s; second = c.stores.first; third = c.stores.second };
      at = next;
    })
    (passed_on c (lent m) x w charged next)
unfolding passed_on
passed_on_lem c m m' k n x w charged next s few size window e a = rw ((stepped c.machine k m m' n few size window a).0, e)

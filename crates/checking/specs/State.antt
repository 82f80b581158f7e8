-- One line of a check, from what the checker holds.
use Rattle.std.specs.Prelude.{Result, Ok, Err, ℕ, ◌+◌, ◌*◌, ◌≤◌, true, false, ◌||◌, List, ◌≡◌, leb, length, drop}
use Rattle.machine.specs.declared.Accessed.{Accessed}
use Rattle.machine.specs.declared.Executed.{Executed}
use Rattle.machine.specs.Types.{no_window}
use Rattle.clocked.specs.Record.{last_kept}
use Rattle.machine.specs.Types.{is_bad}
use Rattle.machine.specs.Memory.{Memory, through, value}
use Rattle.machine.specs.Stages.{new_registers}
use Rattle.machine.specs.Plain.{Plain, plain_of, executed, accessed, step}
use Rattle.clocked.specs.Prediction.{Core}
use Rattle.clocked.specs.Charges.{amount, reason_from, retired_of}
use Rattle.trace.specs.Line.{target_of, trace_line}
use Rattle.trace.specs.declared.Kind.{Kind}
use Rattle.trace.specs.declared.Kind.TheVariants.{NotDue as not_due, Overwritten as overwritten}
use Rattle.trace.specs.Verdict.{begins}
use Rattle.checking.specs.declared.Checking.{Checking}
use Rattle.checking.specs.Stores.{store_by, written_by}

-- the plain engine's state that it holds
abbrev pub held : Checking → Memory → Plain
held c m = plain_of c.machine m

-- the charges up to the next instruction's
unfoldable pub charged_next : Core → Checking → Memory → ℕ
charged_next g c m = c.charged + amount (reason_from g c.kept (accessed (held c m)).instruction)

-- the line that is due
unfoldable pub line_due : Core → Checking → Memory → List ℕ
line_due g c m =
    let w = accessed (held c m) in
    let number = c.machine.count + 1 in
    trace_line number c.machine.address (number + 4 + charged_next g c m) (target_of w) (value (new_registers w c.machine.registers) (target_of w))

-- what is found out about it, where the trace has it
pub record DueLine (g : Core) (trace : List ℕ) (c : Checking) (m : Memory) (x : Executed) (w : Accessed) (charged next : ℕ) : Type 0 where
  pub executed_is : x ≡ executed (held c m)
  pub accessed_is : w ≡ accessed (held c m)
  pub charged_is : charged ≡ charged_next g c m
  pub begins_it : begins (line_due g c m) (drop c.at trace) ≡ true
  pub next_is : next ≡ c.at + length (line_due g c m)

-- no count is so large that it could wrap, and the place is one of the trace
pub record Open (c : Checking) (trace : List ℕ) : Type 0 where
  pub place : c.at ≤ length trace
  pub few : c.machine.count ≤ 65536
  pub cheap : c.charged ≤ 3 * 65536

unfoldable pub passed_on : Checking → Memory → Executed → Accessed → ℕ → ℕ → Checking
passed_on c m x w charged next =
    record {
      machine = (step (held c m)).machine;
      charged = charged;
      kept = last_kept (retired_of w);
      stores = record { first = store_by x m; second = c.stores.first; third = c.stores.second };
      at = next;
    }

-- the three ways in which a line is judged
pub data Checked (g : Core) (trace : List ℕ) (c : Checking) (m : Memory) (r : Result Checking Kind) (m' : Memory) : Type 0 where
  no_line : is_bad c.machine.status || leb 65536 c.machine.count ≡ true → r ≡ Err not_due → m' ≡ m → Checked g trace c m r m'
  written : is_bad c.machine.status || leb 65536 c.machine.count ≡ false → written_by c.machine.window c.stores m c.machine.address ≡ true
      → r ≡ Err overwritten → m' ≡ m → Checked g trace c m r m'
  differs : is_bad c.machine.status || leb 65536 c.machine.count ≡ false → written_by c.machine.window c.stores m c.machine.address ≡ false
      → begins (line_due g c m) (drop c.at trace) ≡ false → r ≡ Err not_due → m' ≡ m → Checked g trace c m r m'
  right : is_bad c.machine.status || leb 65536 c.machine.count ≡ false → written_by c.machine.window c.stores m c.machine.address ≡ false
      → begins (line_due g c m) (drop c.at trace) ≡ true
      → r ≡ Ok (passed_on c m (executed (held c m)) (accessed (held c m)) (charged_next g c m) (c.at + length (line_due g c m)))
      → m' ≡ through no_window (step (held c m)).memory → Checked g trace c m r m'

-- What is said of a trace: which are to be accepted, and why a line is wrong.
use Prim.Native.Nat.{ℕ, ◌≤◌, ◌<◌}
use Rattle.std.specs.Prelude.{◌≡◌}
use Rattle.std.proofs.Math.Bool.{true, false}
use mathlib.Core.List.{List, ◌++◌}
use Rattle.std.proofs.Math.ListN.{length}
use Rattle.machine.specs.Plain.{Plain, is_stopped, steps}
use Rattle.clocked.specs.Prediction.{Core}
use Rattle.clocked.specs.Premise.{Premise}
use Rattle.trace.specs.Text.{plain_line, plain_text}
use Rattle.trace.specs.declared.Kind.{Kind}
use Rattle.trace.specs.declared.Kind.TheVariants.{NotDue as not_due, Overwritten as overwritten}
use Rattle.trace.specs.Verdict.{Verdict, accepted, wrong_by, written_into, begins, trace_limit}

-- WITHIN THE PREMISE
-- the first n instructions: performed, none of them beyond the limit, none written into
pub record Within (s : Plain) (n : ℕ) : Type 0 where
  pub few : n ≤ trace_limit
  pub performed : (k : ℕ) → k < n → is_stopped (steps s k) ≡ false
  pub premise : Premise s n

-- ACCEPTED
-- the traces to accept: the first n lines of the plain run with its cycles, within the premise
pub record Right (g : Core) (s : Plain) (trace : List ℕ) (n : ℕ) : Type 0 where
  pub within : Within s n
  pub text : trace ≡ plain_text g s n

-- WRONG
-- why line n + 1 is wrong, the text from it on being rest, by its kind
pub data Wrong (g : Core) (s : Plain) (n : ℕ) (rest : List ℕ) : Kind → Type 0 where
  -- "Line 65,537 is always wrong."
  beyond : n ≡ trace_limit → Wrong g s n rest not_due
  -- a line behind that of the stopping instruction
  behind_stop : is_stopped (steps s n) ≡ true → Wrong g s n rest not_due
  written : n < trace_limit → is_stopped (steps s n) ≡ false → written_into s n ≡ true → Wrong g s n rest overwritten
  -- it is not the line of that instruction, whatever else it is, as far as it goes
  differs : is_stopped (steps s n) ≡ false → written_into s n ≡ false → begins (plain_line g s n) rest ≡ false → Wrong g s n rest not_due

-- what a verdict says of a trace: it is right; or its first n lines are, and the next, of which there is at least a byte, is wrong
pub data Says (g : Core) (s : Plain) (trace : List ℕ) : Verdict → Type 0 where
  all_right : (n : ℕ) → Right g s trace n → Says g s trace (accepted n)
  first_wrong : (n : ℕ) (kind : Kind) (rest : List ℕ) → Within s n → trace ≡ plain_text g s n ++ rest → 0 < length rest → Wrong g s n rest kind
      → Says g s trace (wrong_by kind n)

-- The byte at fault: one law for each reason. Assumes nothing.
use mathlib.Core.Path.{◌≡◌}
use mathlib.Core.List.{List}
use Prim.Native.Nat.{ℕ}
use mathlib.Core.Bool.{cond}
use lib.Dec.{eqb}
use lib.ListN.{length}
use borrow.Author.Tests.{eq-eqb, ne_eqb}
use Rattle.machine.specs.declared.Fault.{Fault}
use Rattle.machine.specs.Types.{Option, no_fault, faulty}
use Rattle.machine.specs.declared.Fault.TheVariants.{FirstMissing as first_missing, NoCode as no_code, NoFunction as no_function}
use Rattle.machine.specs.declared.Fault.TheVariants.{LaterMissing as later_missing, NoRegister as no_register}
use Rattle.machine.specs.Types.{Window}
use Rattle.machine.specs.declared.Instruction.{Instruction}
use Rattle.machine.specs.Words.{sum}
use Rattle.machine.specs.Memory.{Memory, lent, through, seen_to, code_end}
use Rattle.machine.specs.Fetch.{fault_at, blame_of}

module _ (m : Memory) (a : ℕ) (f : Option Fault) where
  pub none_at : f ≡ no_fault → 0 ≡ fault_at m a f
  unfolding fault_at
  none_at e = cc

  pub first_at : f ≡ faulty first_missing → a ≡ fault_at m a f
  unfolding fault_at
  first_at e = cc

  pub code_at : f ≡ faulty no_code → a ≡ fault_at m a f
  unfolding fault_at
  code_at e = cc

  pub function_at : f ≡ faulty no_function → a ≡ fault_at m a f
  unfolding fault_at
  function_at e = cc

  pub register_at : (r : ℕ) → f ≡ faulty no_register → r ≡ sum a 1 → r ≡ fault_at m a f
  unfolding fault_at
  register_at r e s = cc

-- the lowest missing address is where the bytes end
pub later_at : (w : Window) (b : List ℕ) (a : ℕ) (f : Option Fault) (n : ℕ) → f ≡ faulty later_missing → n ≡ seen_to w (length b) a → n ≡ fault_at (through w (lent b)) a f
unfolding fault_at code_end
later_at w b a f n e h = cc

pub blamed : (m : Memory) (i : Instruction) (r : ℕ) → r ≡ fault_at m i.address i.fault → record { fault = i.fault; address = r } ≡ blame_of m i
unfolding blame_of
blamed m i r e = cc

-- the code, or the function, by the number of functions
pub code_there : (n : ℕ) → n ≡ 0 → faulty no_code ≡ cond (eqb n 0) (faulty no_code) (faulty no_function)
code_there n h = cc (eq-eqb n 0 h)

pub function_there : (n : ℕ) → (n ≡ 0 → ⊥) → faulty no_function ≡ cond (eqb n 0) (faulty no_code) (faulty no_function)
function_there n h = cc (ne_eqb n 0 h)

-- The records that the inner functions of the engine make, in the words of the definitions.
use Rattle.std.specs.Prelude.{ℕ, ◌+◌, List, ◌≡◌}
use Rattle.machine.specs.declared.Machine.{Machine}
use Rattle.machine.specs.declared.Decoded.{Decoded}
use Rattle.machine.specs.declared.Accessed.{Accessed}
use Rattle.machine.specs.declared.Blame.{Blame}
use Rattle.machine.specs.declared.Status.{Status}
use Rattle.machine.specs.declared.Status.TheVariants.{Aok as aok}
use Rattle.machine.specs.Types.{no_window}
use Rattle.machine.specs.Memory.{Memory, through, written}
use Rattle.machine.specs.Stages.{new_codes, new_registers, next_address}
use Rattle.machine.specs.Plain.{plain_of, steps}
use Rattle.machine.specs.Runs.{laid}

unfoldable pub with_register : Machine → ℕ → ℕ → Machine
with_register m q v =
    record {
      registers = written m.registers q v;
      codes = m.codes;
      address = m.address;
      status = m.status;
      last = m.last;
      count = m.count;
      blame = m.blame;
      window = m.window;
    }

unfoldable pub after_performed : Machine → Decoded → Accessed → Machine
after_performed m x w =
    record {
      registers = new_registers w m.registers;
      codes = new_codes x m.codes;
      address = next_address w;
      status = aok;
      last = m.address;
      count = m.count + 1;
      blame = m.blame;
      window = m.window;
    }

unfoldable pub after_stop : Machine → Status → Blame → Machine
after_stop m s x =
    record {
      registers = m.registers;
      codes = m.codes;
      address = m.address;
      status = s;
      last = m.address;
      count = m.count + 1;
      blame = x;
      window = m.window;
    }

-- a run of n instructions from k and memory m, with the log l, ends at r, m' and l'
pub record RunsTo (k : Machine) (m : Memory) (n : ℕ) (l : List ℕ) (r : Machine) (m' : Memory) (l' : List ℕ) : Type 0 where
  pub machine_is : r ≡ (steps (plain_of k m) n).machine
  pub memory_is : m' ≡ through no_window (steps (plain_of k m) n).memory
  pub log_is : l' ≡ laid (steps (plain_of k m) n).log l

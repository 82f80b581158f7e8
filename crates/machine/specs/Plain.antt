-- The plain engine, one instruction at a time.
use Rattle.std.specs.Prelude.{ℕ, zero, suc, ◌+◌, Bool, cond, List, [], ◌∷◌, ◌++◌}
use Rattle.machine.specs.Types.{Window, Machine, Instruction, Decoded, Executed, Accessed, Codes, Status, aok, is_bad}
use Rattle.machine.specs.Memory.{Memory, through, Registers, value}
use Rattle.machine.specs.Fetch.{fetch, blame_of, no_blame}
use Rattle.machine.specs.Stages.{decode, execute, access, new_codes, new_memory, new_registers, next_address}

-- the machine record, its memory seen through the record's window, and the addresses logged so far
pub record Plain : Type 0 where
  pub machine : Machine
  pub memory : Memory
  pub log : List ℕ

-- a fresh start: nothing performed, and the last address is the start address
unfoldable pub plain_start : Window → Registers → Codes → ℕ → Machine
plain_start w r c a = record { registers = r; codes = c; address = a; status = aok; last = a; count = 0; blame = no_blame; window = w }

abbrev pub plain_of : Machine → Memory → Plain
plain_of k m = record { machine = k; memory = through k.window m; log = [] }

unfoldable pub is_stopped : Plain → Bool
is_stopped s = is_bad s.machine.status

-- the next instruction as it is after each of its stages, on this one state
unfoldable pub fetched : Plain → Instruction
fetched s = fetch s.memory s.machine.address

unfoldable pub decoded : Plain → Decoded
decoded s = decode (fetched s) (value s.machine.registers)

unfoldable pub executed : Plain → Executed
executed s = execute (decoded s) s.machine.codes

unfoldable pub accessed : Plain → Accessed
accessed s = access (executed s) s.memory

-- an instruction whose status is AOK
unfoldable pub performed : Plain → Plain
performed s =
    record {
      machine =
          record {
            registers = new_registers (accessed s) s.machine.registers;
            codes = new_codes (decoded s) s.machine.codes;
            address = next_address (accessed s);
            status = aok;
            last = s.machine.address;
            count = s.machine.count + 1;
            blame = s.machine.blame;
            window = s.machine.window;
          };
      memory = new_memory (executed s) s.memory;
      log = s.log ++ s.machine.address ∷ [];
    }

-- "An instruction whose status isn't AOK is the stopping one. It counts as performed, changes no register, memory byte or code,
-- and its own address is the last address." "The program address stays too." "Both engines carry the reason to the stopping answer" (02, #107)
unfoldable pub stopped_by : Plain → Status → Plain
stopped_by s bad =
    record {
      machine =
          record {
            registers = s.machine.registers;
            codes = s.machine.codes;
            address = s.machine.address;
            status = bad;
            last = s.machine.address;
            count = s.machine.count + 1;
            blame = blame_of s.memory (fetched s);
            window = s.machine.window;
          };
      memory = s.memory;
      log = s.log ++ s.machine.address ∷ [];
    }

-- "A step or clock on a stopped machine changes nothing, counts nothing and logs nothing."
unfoldable pub step : Plain → Plain
step s = cond (is_stopped s) s (cond (is_bad (accessed s).status) (stopped_by s (accessed s).status) (performed s))

-- the state after n steps: "A run ends at a stop or a spent budget", since from a stop on a step changes nothing
unfoldable pub steps : Plain → ℕ → Plain
steps s zero = s
steps s (suc n) = step (steps s n)

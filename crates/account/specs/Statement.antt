-- Demand 3, as it is proved.
use Rattle.std.specs.Prelude.{ℕ, zero, suc, ◌≤◌, ◌<◌, true, false, ◌≡◌, length}
use Rattle.account.specs.Names.{Codes, Settings, Kept, none_kept, last_kept}
use Rattle.machine.specs.Types.{is_bad}
use Rattle.machine.specs.Memory.{Memory, Registers}
use Rattle.machine.specs.Plain.{Plain, plain_of, plain_start, is_stopped, accessed, steps}
use Rattle.clocked.specs.Prediction.{Core, core_of}
use Rattle.clocked.specs.Charges.{retired_of, kinds_of, due, due_cycles}
use Rattle.clocked.specs.Pipeline.{Piped, piped_of, pipe_start, clocks}
use Rattle.clocked.specs.Premise.{Premise}

-- what both engines are started from, and the pipeline's settings
pub record Start : Type 0 where
  pub settings : Settings
  pub registers : Registers
  pub codes : Codes
  pub address : ℕ
  pub memory : Memory

unfoldable pub plain_from : Start → Plain
plain_from t = plain_of (plain_start t.settings.window t.registers t.codes t.address) t.memory

unfoldable pub piped_from : Start → Piped
piped_from t = piped_of (pipe_start t.settings t.registers t.codes t.address) t.memory

-- the core that the settings choose
abbrev pub chosen : Start → Core
chosen t = core_of t.settings

-- Of the plain history from s exactly n instructions are due by cycle c. Instruction k + 1 is performed on steps s k, and due in cycle
-- due g s (k + 1), "k + 4 plus the charges of instructions 1 to k" with k counted from 1.
pub record DueBy (g : Core) (s : Plain) (c n : ℕ) : Type 0 where
  -- the plain engine performs the n: none comes after a stop
  pub performed : (k : ℕ) → k < n → is_stopped (steps s k) ≡ false
  pub arrived : (k : ℕ) → k < n → due g s (suc k) ≤ c
  -- and the next, unless there is none, is not due yet
  pub awaited : is_stopped (steps s n) ≡ false → c < due g s (suc n)

-- the last of the first n instructions of the plain history, as a pipeline keeps it
unfoldable pub kept_of : Plain → ℕ → Kept
kept_of s zero = none_kept
kept_of s (suc n) = last_kept (retired_of (accessed (steps s n)))

-- What holds of the pipeline p after c clocks, when n instructions have retired, beside the plain history from s.
pub record Agrees (g : Core) (s : Plain) (p : Piped) (c n : ℕ) : Type 0 where
  -- exactly the instructions that are due have retired
  pub retired : p.pipeline.retired ≡ n
  pub exactly : DueBy g s c n
  -- in the plain engine's order, the k-th in the cycle in which it is due
  pub addresses : p.address_log ≡ (steps s n).log
  pub cycles : p.cycle_log ≡ due_cycles g s n
  -- "The cycle counts kept by kind sum the charges of the instructions that the pipeline retired"
  pub kinds : p.pipeline.kinds ≡ kinds_of g s n
  -- registers, status, last address and the reason of a bad fetch are the plain engine's after as many instructions
  pub registers : p.pipeline.registers ≡ (steps s n).machine.registers
  pub status : p.pipeline.status ≡ (steps s n).machine.status
  pub last : p.pipeline.last ≡ (steps s n).machine.last
  pub blame : p.pipeline.blame ≡ (steps s n).machine.blame
  -- while it runs, the instruction last retired is, field for field, the one that the plain engine performed
  pub kept : is_bad p.pipeline.status ≡ false → p.pipeline.kept ≡ kept_of s n
  -- and every clock is counted
  pub running : is_bad p.pipeline.status ≡ false → p.pipeline.cycles ≡ c
  -- at a stop memory and codes are the plain engine's too, and the cycles counted are those up to the stopping instruction
  pub stopped : is_bad p.pipeline.status ≡ true
      → (p.memory ≡ (steps s n).memory) × (p.pipeline.codes ≡ (steps s n).machine.codes) × (p.pipeline.cycles ≡ due g s n)

-- "Start both alike." From every start, where among the first k + 1 instructions "no store writes a byte of any of the next three
-- instructions the plain engine performs", which is asked only where no window is set (02, #113), the pipeline agrees after every clock up to the cycle in which instruction k + 1 is due. It
-- holds of every core, whatever it guesses of conditional jumps, and so of the one that the start's settings choose.
abbrev pub Demand3 : Type 0
Demand3 =
    (g : Core) (t : Start) → length t.registers ≡ 15 → (k : ℕ) → Premise (plain_from t) (suc k)
    → (c : ℕ) → c ≤ due g (plain_from t) (suc k) → (n : ℕ) × Agrees g (plain_from t) (clocks g (piped_from t) c) c n

-- The declared types of src/lib.rt under one roof, and document 01's numbers for their cases.
use Rattle.std.specs.Prelude.{ℕ, ◌+◌, ◌*◌, ◌/◌, ◌%◌, Bool, true, false, cond, eqb}
pub use Rattle.machine.specs.declared.Status.{Status}
pub use Rattle.machine.specs.declared.Status.TheVariants.{Aok as aok, Hlt as hlt, Adr as adr, Ins as ins}
pub use Rattle.machine.specs.declared.Fault.{Fault}
pub use Rattle.machine.specs.declared.Fault.TheVariants.{FirstMissing as first_missing, NoCode as no_code, NoFunction as no_function}
pub use Rattle.machine.specs.declared.Fault.TheVariants.{LaterMissing as later_missing, NoRegister as no_register}
pub use Rattle.machine.specs.declared.Blame.{Blame}
pub use Rattle.machine.specs.declared.Codes.{Codes}
pub use Rattle.machine.specs.declared.Machine.{Machine}
pub use Rattle.machine.specs.declared.Instruction.{Instruction}
pub use Rattle.machine.specs.declared.Fetched.{Fetched}
pub use Rattle.machine.specs.declared.Decoded.{Decoded}
pub use Rattle.machine.specs.declared.Executed.{Executed}
pub use Rattle.machine.specs.declared.Accessed.{Accessed}
pub use Rattle.std.specs.declared.option.Option.{Option}
pub use Rattle.std.specs.declared.option.Option.TheVariants.{None as no_fault, Some as faulty}
pub use Rattle.std.specs.declared.option.Option.TheVariants.{None as no_window, Some as within}

-- the code window of a start, if it has one: its first address, and its end, which is not in it
abbrev pub Window : Type 0
Window = Option (ℕ × ℕ)

-- "Status: AOK 1, HLT 2, ADR 3, INS 4."
unfoldable pub status_number : Status → ℕ
status_number aok = 1
status_number hlt = 2
status_number adr = 3
status_number ins = 4

-- a status that "isn't AOK", which document 01 also calls bad
unfoldable pub is_bad : Status → Bool
is_bad aok = false
is_bad hlt = true
is_bad adr = true
is_bad ins = true

-- "the reason (first byte missing, code, function, later byte missing, register)" (02, #107), in this order from 1; none is 0
unfoldable pub fault_number : Option Fault → ℕ
fault_number no_fault = 0
fault_number (faulty first_missing) = 1
fault_number (faulty no_code) = 2
fault_number (faulty no_function) = 3
fault_number (faulty later_missing) = 4
fault_number (faulty no_register) = 5

-- "With a window set" (02, #113)
unfoldable pub is_set : Window → Bool
is_set no_window = false
is_set (within (first, end)) = true

-- "codes as 4ZF + 2SF + OF"
unfoldable pub codes_number : Codes → ℕ
codes_number c = 4 * cond c.zf 1 0 + 2 * cond c.sf 1 0 + cond c.of 1 0

-- the codes of a number 4ZF + 2SF + OF
unfoldable pub codes_from : ℕ → Codes
codes_from n = record { zf = eqb (n / 4) 1; sf = eqb (n / 2 % 2) 1; of = eqb (n % 2) 1 }

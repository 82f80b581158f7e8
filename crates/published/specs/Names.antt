-- The declared types under one roof.
pub use Rattle.machine.specs.declared.Status.{Status}
pub use Rattle.machine.specs.declared.Status.TheVariants.{Aok as aok, Hlt as hlt, Adr as adr, Ins as ins}
pub use Rattle.machine.specs.Types.{Option, no_fault, faulty}
pub use Rattle.machine.specs.declared.Fault.{Fault}
pub use Rattle.machine.specs.declared.Fault.TheVariants.{FirstMissing as first_missing, NoCode as no_code, NoFunction as no_function}
pub use Rattle.machine.specs.declared.Fault.TheVariants.{LaterMissing as later_missing, NoRegister as no_register}
pub use Rattle.machine.specs.declared.Blame.{Blame}
pub use Rattle.machine.specs.declared.Codes.{Codes}
pub use Rattle.machine.specs.Types.{Window}
pub use Rattle.machine.specs.Types.{no_window, within}
pub use Rattle.machine.specs.declared.Instruction.{Instruction}

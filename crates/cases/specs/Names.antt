-- The declared types under one roof.
pub use Rattle.machine.specs.declared.Status.{Status}
pub use Rattle.machine.specs.declared.Status.TheVariants.{Aok as aok, Hlt as hlt, Adr as adr, Ins as ins}
pub use Rattle.machine.specs.Types.{Window}
pub use Rattle.machine.specs.Types.{no_window, within}
pub use Rattle.machine.specs.declared.Codes.{Codes}
pub use Rattle.machine.specs.declared.Instruction.{Instruction}
pub use Rattle.machine.specs.Runs.{FetchAnswer}
pub use Rattle.machine.specs.declared.Executed.{Executed}
pub use Rattle.machine.specs.declared.Machine.{Machine}
pub use Rattle.clocked.specs.declared.Settings.{Settings}
pub use Rattle.clocked.specs.declared.Pipeline.{Pipeline}

-- The declared types under one roof.
pub use Rattle.machine.specs.declared.Status.{Status}
pub use Rattle.machine.specs.declared.Status.TheVariants.{Aok as aok, Hlt as hlt, Adr as adr, Ins as ins}
pub use Rattle.machine.specs.Types.{Option, no_fault, faulty}
pub use Rattle.machine.specs.declared.Fault.{Fault}
pub use Rattle.machine.specs.declared.Fault.TheVariants.{NoFunction as no_function, LaterMissing as later_missing, NoRegister as no_register}
pub use Rattle.machine.specs.declared.Codes.{Codes}
pub use Rattle.machine.specs.Types.{Window}
pub use Rattle.machine.specs.Types.{no_window, within}
pub use Rattle.machine.specs.declared.Machine.{Machine}
pub use Rattle.machine.specs.declared.Instruction.{Instruction}
pub use Rattle.machine.specs.Runs.{FetchAnswer}
pub use Rattle.machine.specs.declared.Decoded.{Decoded}
pub use Rattle.machine.specs.declared.Executed.{Executed}
pub use Rattle.machine.specs.declared.Accessed.{Accessed}
pub use Rattle.clocked.specs.declared.Settings.{Settings}
pub use Rattle.clocked.specs.declared.Retired.{Retired}
pub use Rattle.clocked.specs.Record.{StageD}
pub use Rattle.clocked.specs.Record.{bubble_d, in_d}
pub use Rattle.clocked.specs.Record.{StageE}
pub use Rattle.clocked.specs.Record.{bubble_e, in_e}
pub use Rattle.clocked.specs.Record.{StageM}
pub use Rattle.clocked.specs.Record.{bubble_m, in_m}
pub use Rattle.clocked.specs.Record.{StageW}
pub use Rattle.clocked.specs.Record.{bubble_w, in_w}
pub use Rattle.clocked.specs.Record.{Kept}
pub use Rattle.clocked.specs.Record.{none_kept, last_kept}
pub use Rattle.clocked.specs.declared.Kinds.{Kinds}
pub use Rattle.clocked.specs.declared.Pipeline.{Pipeline}

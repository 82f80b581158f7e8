-- machine's declared types that a stage works on, under one roof.
pub use Rattle.machine.specs.declared.Codes.{Codes}
pub use Rattle.machine.specs.declared.Instruction.{Instruction}
pub use Rattle.machine.specs.declared.Decoded.{Decoded}
pub use Rattle.machine.specs.declared.Executed.{Executed}
pub use Rattle.machine.specs.declared.Accessed.{Accessed}
pub use Rattle.clocked.specs.Record.{Option, StageD}
pub use Rattle.clocked.specs.Record.{bubble_d, in_d}
pub use Rattle.clocked.specs.Record.{StageE}
pub use Rattle.clocked.specs.Record.{bubble_e, in_e}
pub use Rattle.clocked.specs.Record.{StageM}
pub use Rattle.clocked.specs.Record.{bubble_m, in_m}
pub use Rattle.clocked.specs.Record.{StageW}
pub use Rattle.clocked.specs.Record.{bubble_w, in_w}

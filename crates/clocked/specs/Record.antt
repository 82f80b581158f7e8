-- The declared types of src/lib.rt, and those of machine that the pipeline holds, under one roof.
pub use Rattle.machine.specs.declared.Status.{Status}
pub use Rattle.machine.specs.declared.Status.TheVariants.{Aok as aok, Hlt as hlt, Adr as adr, Ins as ins}
pub use Rattle.machine.specs.declared.Codes.{Codes}
pub use Rattle.machine.specs.Types.{Window, no_window, within, Option}
pub use Rattle.machine.specs.declared.Machine.{Machine}
pub use Rattle.machine.specs.declared.Instruction.{Instruction}
pub use Rattle.machine.specs.declared.Decoded.{Decoded}
pub use Rattle.machine.specs.declared.Executed.{Executed}
pub use Rattle.machine.specs.declared.Accessed.{Accessed}
pub use Rattle.clocked.specs.declared.Settings.{Settings}
pub use Rattle.clocked.specs.declared.Retired.{Retired}
pub use Rattle.clocked.specs.declared.Reason.{Reason}
pub use Rattle.clocked.specs.declared.Reason.TheVariants.{Waited as waited, WronglyGuessed as wrongly_guessed, Returned as returned, Patched as patched}
pub use Rattle.clocked.specs.declared.Kinds.{Kinds}
pub use Rattle.clocked.specs.declared.Pipeline.{Pipeline}
pub use Rattle.std.specs.declared.option.Option.TheVariants.{None as bubble_d, Some as in_d}
pub use Rattle.std.specs.declared.option.Option.TheVariants.{None as bubble_e, Some as in_e}
pub use Rattle.std.specs.declared.option.Option.TheVariants.{None as bubble_m, Some as in_m}
pub use Rattle.std.specs.declared.option.Option.TheVariants.{None as bubble_w, Some as in_w}
pub use Rattle.std.specs.declared.option.Option.TheVariants.{None as none_kept, Some as last_kept}
pub use Rattle.std.specs.declared.option.Option.TheVariants.{None as free, Some as because}

-- each stage holds an instruction, or a bubble
abbrev pub StageD : Type 0
StageD = Option Instruction

abbrev pub StageE : Type 0
StageE = Option Decoded

abbrev pub StageM : Type 0
StageM = Option Executed

abbrev pub StageW : Type 0
StageW = Option Accessed

abbrev pub Kept : Type 0
Kept = Option Retired

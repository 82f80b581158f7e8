-- The invariant: flow, counts, status, registers, memory and logs are those after `_done` clocks of the definition (`Runs` `Here`, which also keeps the
-- counts small and the carried targets right).
-- A turn goes on by `here_next`, or stops in its clock by `here_stopped`; a way out of the loop names its facts in the order of the code.
use Rattle.machine.specs.Memory.{lent, through}
use Rattle.clocked.specs.Pipeline.{piped_of}
use Rattle.pipe.specs.Parts.{whole}
use Rattle.pipe.proofs.Runs.{Here}
use Rattle.pipe.proofs.running.looped.Given as goal

abbrev pub invariant-loop-done : goal.invariant-loop-done
invariant-loop-done l =
    Here l.settings (piped_of (whole l.settings l.initial.flow l.initial.tally l.initial.status l.initial.registers l.initial.blame) (lent l.initial.memory)) l.first l.initial.addresses l.initial.cycles l._done l.flow l.tally l.status l.registers
    l.blame (through l.settings.window (lent l.memory)) l.addresses l.cycles

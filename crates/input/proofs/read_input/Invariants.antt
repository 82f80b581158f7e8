-- The bytes read so far stand within the buffer, which keeps its length; each turn leaves fewer.
use Rattle.std.proofs.Common.{◌-◌, ◌≤◌, length}
use Rattle.input.proofs.read_input.Given as goal

abbrev pub invariant-loop-done : goal.invariant-loop-done
invariant-loop-done g l = l.done ≤ length l.buffer

abbrev pub decreases-loop-done : goal.decreases-loop-done
decreases-loop-done g l = length l.buffer - l.done

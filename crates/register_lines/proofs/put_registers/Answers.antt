use Rattle.register_lines.specs.Registers.{register_lines}
use Rattle.text.specs.Put.{put_nothing, put_both}
use native.Mathlib.Omega.{arith}
use native.Mathlib.Numerals.{add-one}
use Rattle.register_lines.proofs.put_registers.Goals as goal

pub loop-k-init : goal.loop-k-init
unfolding register_lines
loop-k-init c = put_nothing _ (omega arith)

pub loop-k-preserved : goal.loop-k-preserved
unfolding register_lines
loop-k-preserved c = rw add-one (put_both c.loop-k.invariant c.put_register.ensures)

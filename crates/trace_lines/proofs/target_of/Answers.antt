use Rattle.trace_lines.proofs.Ways.{stopping, computed}
use native.Mathlib.Omega.{arith}
use Rattle.trace_lines.proofs.target_of.Goals as goal

pub returns-then-is_bad : goal.returns-then-is_bad
returns-then-is_bad c =
    stopping _ _ c.is_bad.ensures c.if-is_bad.true

pub returns : goal.returns
returns c =
    computed _ _ c.is_bad.ensures c.if-is_bad.false _ c.loaded_target-loaded.ensures (omega arith) _ c.result_target.ensures

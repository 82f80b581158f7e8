use Rattle.std.proofs.Common.{arith, ◌∙◌}
use Rattle.text.proofs.Digits.{counted_none, counted_more, all_counted, room}
use Rattle.text.proofs.hex.number.Goals as goal

pub loop-c-init : goal.loop-c-init
loop-c-init c = counted_none _

pub overflow_mul-n : goal.overflow_mul-n
overflow_mul-n c = record { fits = omega (arith, room _ _ c.loop-c.invariant.small (omega arith)) }

pub overflow_add-n : goal.overflow_add-n
overflow_add-n c = record { fits = omega (arith, room _ _ c.loop-c.invariant.small (omega arith), c.value.ensures.1) }

pub loop-c-preserved : goal.loop-c-preserved
loop-c-preserved c =
    counted_more _ _ _ c.loop-c.invariant _ c.loop-c-test.true (c.from.ensures ∙ c.value.ensures.0) (omega (arith, c.value.ensures.1))

pub returns : goal.returns
returns c = all_counted _ _ _ c.loop-c.invariant c.loop-c-test.false

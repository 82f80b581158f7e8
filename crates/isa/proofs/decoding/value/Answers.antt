use borrow.Author.Tests.{lt-ltb, le-ltb}
use Rattle.machine.specs.Memory.{value}
use Rattle.isa.proofs.decoding.value.Goals as goal

pub returns-then-q-lt-NONE : goal.returns-then-q-lt-NONE
unfolding value
returns-then-q-lt-NONE c = simp (lt-ltb _ _ c.if-q-lt-NONE.true)

pub returns-else-q-lt-NONE : goal.returns-else-q-lt-NONE
unfolding value
returns-else-q-lt-NONE c = simp (le-ltb _ _ c.if-q-lt-NONE.false)

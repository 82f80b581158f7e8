use Rattle.text.proofs.Ways.{one_more}
use Rattle.text.proofs.putting.Writer.text.Goals as goal

pub loop-byte-preserved : goal.loop-byte-preserved
loop-byte-preserved c = one_more _ _ c.loop-byte-test.true c.loop-byte.invariant c.byte.ensures

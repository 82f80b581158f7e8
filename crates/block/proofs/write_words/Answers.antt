use Rattle.std.proofs.Common.{refl}
use Rattle.block.specs.Block.{with_words}
use Rattle.block.proofs.Blocks.{write_more, write_all}
use Rattle.block.proofs.write_words.Goals as goal

pub loop-k-init : goal.loop-k-init
unfolding with_words
loop-k-init c = refl

pub loop-k-preserved : goal.loop-k-preserved
loop-k-preserved c =
    write_more _ _ _ _ _ c.loop-k.invariant c.loop-k-test.true c.requires c.store.ensures

pub returns : goal.returns
returns c = write_all _ _ _ _ c.loop-k.invariant c.loop-k-test.false

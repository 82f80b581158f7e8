-- The first k words stand in the block, at eight bytes each, and the rest of it is as it was.
use Rattle.std.proofs.Common.{◌≡◌, take}
use Rattle.block.specs.Block.{with_words}
use Rattle.block.proofs.write_words.Given as goal

abbrev pub invariant-loop-k : goal.invariant-loop-k
invariant-loop-k l = l.block ≡ with_words (take l.k l.words) l.initial.block 0

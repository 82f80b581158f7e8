use native.Mathlib.Omega.{arith}
use Rattle.text.specs.Put.{put_nothing}
use Rattle.writing.specs.HexText.{hex_pairs}
use Rattle.writing.proofs.Digits.{one_pair_more}
use Rattle.writing.proofs.hexes.put_pairs.Goals as goal

pub loop-byte-init : goal.loop-byte-init
unfolding hex_pairs
loop-byte-init c = put_nothing _ (omega arith)

pub loop-byte-preserved : goal.loop-byte-preserved
loop-byte-preserved c = one_pair_more _ _ c.loop-byte-test.true c.loop-byte.invariant c.put_digit.ensures c.put_digit-in-loop-byte.ensures

use Rattle.std.proofs.Common.{arith, ◌∙◌}
use Rattle.listing.proofs.Bytes.{puts_more, puts_all}
use Rattle.listing.proofs.laying.put.Goals as goal

pub loop-k-preserved : goal.loop-k-preserved
loop-k-preserved c =
    let s = c.in-Some.ensures.steps in
    let i = c.loop-k.invariant in (
      s.0.0 ∙ i.0,
      rw (s.1, s.2) (puts_more _ _ _ _ _ _ i.1 _ _ _ s.0.1.0 (s.0.1.1 ∙ i.0) c.byte.ensures),
    )

pub returns : goal.returns
returns c =
    let s = c.in-None.ensures.steps in
    puts_all _ _ _ _ _ _ c.loop-k.invariant.1 (omega (arith, c.loop-k.invariant.0))

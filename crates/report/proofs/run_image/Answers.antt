-- An image that is too large by `too_large`, any other by `runs`, from what the start gave and the test of the size said.
use Rattle.report.proofs.Ways.{too_large, runs}
use Rattle.report.proofs.run_image.Goals as goal

pub returns-then-image_refused : goal.returns-then-image_refused
returns-then-image_refused c =
    too_large _ _ _ _ _ c.as_in_01.ensures c.start-started.ensures c.record_of-fresh.ensures c.image_refused.ensures c.if-image_refused.true

pub returns : goal.returns
returns c =
    runs _ _ _ _ _ c.as_in_01.ensures c.start-started.ensures c.record_of-fresh.ensures c.image_refused.ensures _ _ _ c.if-image_refused.false
    c.run_unlogged.ensures

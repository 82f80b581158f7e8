use mathlib.Core.Path.{sym}
use lib.Seq.{length-take-le}
use Rattle.report.specs.Laws.{handed_over}
use Rattle.y86run.proofs.hand_over.Goals as goal

pub slice_bounds-out-end : goal.slice_bounds-out-end
slice_bounds-out-end g c = handed_over _ _ _ _ _ c.report_image-n.ensures

pub slice_bounds-write_all-end : goal.slice_bounds-write_all-end
slice_bounds-write_all-end g c = sym (length-take-le _ _ (handed_over _ _ _ _ _ c.report_image-n.ensures))

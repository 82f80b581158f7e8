use Rattle.report.proofs.Ways.{replays}
use Rattle.report.proofs.report_image.Goals as goal

pub returns : goal.returns
returns c =
    replays _ _ _ _ _ _ _ c.run_image-answer.ensures (rw (c.number_of.ensures, c.record_of.ensures) at c.write_report.ensures)

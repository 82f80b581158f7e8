use Rattle.text.specs.Put.{put_both}
use Rattle.report.specs.Report.{end_lines}
use Rattle.report.proofs.put_end.Goals as goal

pub returns : goal.returns
unfolding end_lines
returns c = put_both (put_both (put_both c.put_status.ensures c.put_counts.ensures) c.put_kinds.ensures) c.put_registers.ensures

use Rattle.text.specs.Bytes.{bytes}
use Rattle.text.specs.Put.{put_both}
use Rattle.report_lines.specs.Lines.{line}
use Rattle.dayreport.specs.Lines.{missing, missing_lines}
use Rattle.dayreport.proofs.lines.put_missing.Goals as goal

pub returns : goal.returns
unfolding missing_lines missing line bytes
returns c = put_both (put_both c.text.ensures c.put_totals.ensures) c.text-2.ensures

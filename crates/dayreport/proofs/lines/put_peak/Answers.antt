use Rattle.text.specs.Bytes.{bytes}
use Rattle.text.specs.Put.{put_both}
use Rattle.dayreport.specs.Lines.{peak_lines}
use Rattle.dayreport.proofs.lines.put_peak.Goals as goal

pub returns : goal.returns
unfolding peak_lines bytes
returns c = put_both c.put_number.ensures c.put_number-2.ensures

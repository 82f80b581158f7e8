use Rattle.text.specs.Bytes.{bytes}
use Rattle.text.specs.Put.{put_both}
use Rattle.report_lines.specs.Lines.{kind_lines}
use Rattle.report_lines.proofs.put_kinds.Goals as goal

pub returns : goal.returns
unfolding kind_lines bytes
returns c = put_both (put_both c.put_number.ensures c.put_number-2.ensures) c.put_number-3.ensures

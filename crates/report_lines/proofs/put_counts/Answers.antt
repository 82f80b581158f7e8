use Rattle.text.specs.Bytes.{bytes}
use Rattle.text.specs.Put.{put_both}
use Rattle.report_lines.specs.Lines.{count_lines}
use Rattle.report_lines.proofs.put_counts.Goals as goal

pub returns : goal.returns
unfolding count_lines bytes
returns c =
    put_both (put_both (put_both c.put_number.ensures (rw c.from.ensures at c.put_number-2.ensures)) c.put_number-3.ensures) c.put_number-4.ensures

use Rattle.std.proofs.Common.{append_assoc}
use Rattle.text.specs.Bytes.{bytes}
use Rattle.text.specs.Put.{put_both}
use Rattle.report_lines.specs.Lines.{line}
use Rattle.report_lines.proofs.put_number.Goals as goal

pub returns : goal.returns
unfolding line bytes
returns c = rw append_assoc (put_both (put_both c.text.ensures c.byte.ensures) c.field.ensures)

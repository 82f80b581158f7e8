use Rattle.std.proofs.Common.{append_assoc}
use Rattle.text.specs.Bytes.{bytes}
use Rattle.text.specs.Put.{put_both}
use Rattle.trace.specs.Line.{trace_line}
use Rattle.trace_lines.proofs.put_line.Goals as goal

pub returns : goal.returns
unfolding trace_line bytes
returns c =
    simp append_assoc
    (simp append_assoc at (put_both c.field.ensures (put_both c.field-2.ensures (put_both c.field-3.ensures c.put_target.ensures))))

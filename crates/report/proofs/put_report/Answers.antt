use borrow.Author.Tests.{eq-eqb, ne_eqb}
use Rattle.text.specs.Bytes.{bytes}
use Rattle.text.specs.Put.{put_both}
use Rattle.report_lines.specs.Lines.{line}
use Rattle.report.specs.Report.{report}
use Rattle.report.proofs.put_report.Goals as goal

pub returns-then-number-eq0 : goal.returns-then-number-eq0
unfolding report line bytes
returns-then-number-eq0 c = rw (eq-eqb _ _ c.if-number-eq0.true) (put_both c.text.ensures c.put_end.ensures)

pub returns-else-number-eq0 : goal.returns-else-number-eq0
unfolding report line bytes
returns-else-number-eq0 c = rw (ne_eqb _ _ c.if-number-eq0.false) (put_both c.text.ensures c.put_number.ensures)

use Rattle.text.specs.Bytes.{bytes}
use Rattle.report_lines.specs.Lines.{line, status_text, status_line}
use Rattle.report_lines.proofs.put_status.Goals as goal

pub returns-in-Aok : goal.returns-in-Aok
unfolding status_line status_text line bytes
returns-in-Aok c = rw c.in-Aok.is c.text.ensures

pub returns-in-Hlt : goal.returns-in-Hlt
unfolding status_line status_text line bytes
returns-in-Hlt c = rw c.in-Hlt.is c.text-in-Hlt.ensures

pub returns-in-Adr : goal.returns-in-Adr
unfolding status_line status_text line bytes
returns-in-Adr c = rw c.in-Adr.is c.text-in-Adr.ensures

pub returns-in-Ins : goal.returns-in-Ins
unfolding status_line status_text line bytes
returns-in-Ins c = rw c.in-Ins.is c.text-in-Ins.ensures

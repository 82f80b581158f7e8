use Rattle.text.specs.Bytes.{bytes}
use Rattle.report_lines.specs.Lines.{line}
use Rattle.dayreport.specs.Lines.{filed_text, filed_line}
use Rattle.dayreport.proofs.lines.put_filed.Goals as goal

pub returns-in-Below : goal.returns-in-Below
unfolding filed_line filed_text line bytes
returns-in-Below c = rw c.in-Below.is c.text.ensures

pub returns-in-At : goal.returns-in-At
unfolding filed_line filed_text line bytes
returns-in-At c = rw c.in-At.is c.text-in-At.ensures

pub returns-in-Above : goal.returns-in-Above
unfolding filed_line filed_text line bytes
returns-in-Above c = rw c.in-Above.is c.text-in-Above.ensures

pub returns-in-NotComparable : goal.returns-in-NotComparable
unfolding filed_line filed_text line bytes
returns-in-NotComparable c = rw c.in-NotComparable.is c.text-in-NotComparable.ensures

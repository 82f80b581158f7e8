use native.Mathlib.Omega.{arith}
use Rattle.dayreport.specs.Lines.{lines_of, day_lines}
use Rattle.dayreport.specs.Laws.{missing_length}
use Rattle.dayreport.proofs.lines.put_day.Goals as goal

pub returns-in-None : goal.returns-in-None
unfolding day_lines lines_of
returns-in-None c =
    rw c.in-None.is (record { put = c.put_missing.ensures; short = missing_length c.args.day (omega arith) (omega arith) })

pub returns-in-Some : goal.returns-in-Some
unfolding day_lines lines_of
returns-in-Some c = rw c.in-Some.is (record { put = c.put_found.ensures.put; short = c.put_found.ensures.short })

use Rattle.dayreport.proofs.Ways.{totals}
use Rattle.text.specs.Bytes.{bytes}
use Rattle.dayreport.proofs.lines.put_totals.Goals as goal

pub returns-clause-put : goal.returns-clause-put
unfolding bytes
returns-clause-put c =
    totals c.args.day c.put_number-a.ensures.put c.put_number.ensures.put

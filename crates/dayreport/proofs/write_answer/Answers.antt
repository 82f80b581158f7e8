use Rattle.dayreport.proofs.Ways.{answer_refused, answer_day}
use Rattle.dayreport.proofs.write_answer.Goals as goal

pub returns-in-Err : goal.returns-in-Err
returns-in-Err c = answer_refused _ _ _ _ c.in-Err.is c.into.ensures c.write_refusal.ensures

pub returns-in-Ok : goal.returns-in-Ok
returns-in-Ok c = answer_day _ _ _ c.in-Ok.is c.write_day.ensures

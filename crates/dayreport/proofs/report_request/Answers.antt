use Rattle.dayreport.proofs.Ways.{request_refused, request_done}
use Rattle.dayreport.proofs.report_request.Goals as goal

pub returns-then-image_refused : goal.returns-then-image_refused
returns-then-image_refused c =
    request_refused c.args.request _ _ _ c.image_refused.ensures
    c.if-image_refused.true c.write_refusal.ensures

pub returns : goal.returns
returns c =
    request_done c.args.request _ _ _ c.image_refused.ensures _ _ _ _ c.if-image_refused.false c.run_image.ensures
    c.judge.ensures c.write_answer.ensures

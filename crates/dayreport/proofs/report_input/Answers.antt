use Rattle.dayreport.proofs.Reading.{image_inside}
use Rattle.dayreport.proofs.Ways.{input_bad, input_asks}
use Rattle.dayreport.proofs.report_input.Goals as goal

pub slice_bounds-report_request-count : goal.slice_bounds-report_request-count
slice_bounds-report_request-count c = image_inside _ _ _ c.read_line.ensures c.in-Some.is

pub slice_bounds-report_request-start : goal.slice_bounds-report_request-start
slice_bounds-report_request-start c = image_inside _ _ _ c.read_line.ensures c.in-Some.is

pub returns-in-None : goal.returns-in-None
returns-in-None c = input_bad _ _ _ c.read_line.ensures c.in-None.is c.write_refusal.ensures

pub returns-in-Some : goal.returns-in-Some
returns-in-Some c =
    let read = c.read_line.ensures in
    let asked = c.in-Some.is in
    input_asks _ _ _ read _ _ asked (image_inside _ _ _ read asked) c.report_request.ensures

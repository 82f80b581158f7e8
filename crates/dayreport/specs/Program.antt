-- #114, "A second program": what y86peaks answers, whatever bytes it read.
use Rattle.std.specs.Prelude.{ℕ, cond, List, Result, ◌++◌, length, take, drop}
use Rattle.peaks.specs.declared.Day.{Day}
use Rattle.peaks.specs.declared.Refusal.{Refusal}
use Rattle.peaks.specs.Day.{judged}
use Rattle.report_lines.specs.Lines.{number_line}
use Rattle.report.specs.Report.{image_refused, image_run}
use Rattle.dayreport.specs.declared.line.Request.{Request}
use Rattle.std.specs.Prelude.{None as bad_line, Some as asks}
use Rattle.dayreport.specs.Line.{FirstLine, first_line}
use Rattle.dayreport.specs.Lines.{answer_lines}

-- THE DAY of the final memory of the pipelined run
unfoldable pub day_answer : Request → List ℕ → Result Day Refusal
day_answer q image = judged (image_run image).memory q.table q.length q.filed

-- the bytes written for a request and the image behind it; "5 for an image that 01's refusal 1 meets": one that the first program refuses
unfoldable pub request_text : Request → List ℕ → List ℕ
request_text q image = cond (image_refused (length image)) (number_line "refused" 5) (answer_lines (day_answer q image))

-- how many bytes are written, the buffer that they stand in, and the image
unfoldable pub requested : Request → List ℕ → List ℕ → ℕ × List ℕ × List ℕ
requested q image out = (length (request_text q image), request_text q image ++ drop (length (request_text q image)) out, (image_run image).memory.bytes)

-- "4 for a bad first line"; the image begins behind a good one
unfoldable pub input_text : List ℕ → FirstLine → List ℕ
input_text input bad_line = number_line "refused" 4
input_text input (asks q) = request_text q (drop q.image input)

unfoldable pub input_left : List ℕ → FirstLine → List ℕ
input_left input bad_line = input
input_left input (asks q) = take q.image input ++ (image_run (drop q.image input)).memory.bytes

-- THE BYTES THAT ARE WRITTEN for the bytes that were read
unfoldable pub written_for : List ℕ → List ℕ
written_for input = input_text input (first_line input)

-- with their number, the rest of the buffer, and what is left of the bytes read
unfoldable pub answered_input : List ℕ → List ℕ → ℕ × List ℕ × List ℕ
answered_input input out = (length (written_for input), written_for input ++ drop (length (written_for input)) out, input_left input (first_line input))

-- Document 01's "Program": what it runs, and what it writes, line by line.
use Rattle.std.specs.Prelude.{ℕ, Bool, true, false, cond, ◌||◌, List, [], ◌++◌, eqb, ltb, length, replicate, drop}
use Rattle.clocked.specs.declared.Pipeline.{Pipeline}
use Rattle.machine.specs.Memory.{lent}
use Rattle.clocked.specs.Prediction.{as_in_01}
use Rattle.clocked.specs.Pipeline.{pipe_start}
use Rattle.clocked.specs.PipeRuns.{PipeAnswer, pipe_answer, pipe_run_unlogged}
use Rattle.text.specs.Bytes.{bytes}
use Rattle.report_lines.specs.Lines.{line, number_line, status_line, count_lines, kind_lines}
use Rattle.register_lines.specs.Registers.{register_lines}

-- the lines of a run that was not refused, behind the first
unfoldable pub end_lines : Pipeline → List ℕ
end_lines p = status_line p.status ++ count_lines p ++ kind_lines p.kinds ++ register_lines 15 p.registers

-- "Refused: `y86run 1` and `refused 1`", with a tab for each space
unfoldable pub report : ℕ → Pipeline → List ℕ
report number p = line (bytes "y86run") (bytes "1") ++ cond (eqb number 0) (end_lines p) (number_line "refused" number)

-- #109: "the program still holds at most 4,096 bytes"
unfoldable pub image_refused : ℕ → Bool
image_refused size = eqb size 0 || ltb 4096 size

-- "registers 0, codes ZF=1, start 0, budget 4,000 cycles"
unfoldable pub image_start : Pipeline
image_start = pipe_start as_in_01 (replicate 15 0) (record { zf = true; sf = false; of = false }) 0

unfoldable pub image_run : List ℕ → PipeAnswer
image_run image = cond (image_refused (length image)) (pipe_answer 1 image_start (lent image) [] []) (pipe_run_unlogged image_start (lent image) 4000)

-- the bytes that the program writes for the image that it read
unfoldable pub reported : List ℕ → List ℕ
reported image = report (image_run image).number (image_run image).pipeline

-- and what it has in hand then: how many bytes it hands over, the buffer that they stand in, and the image after the run
unfoldable pub replayed : List ℕ → List ℕ → ℕ × List ℕ × List ℕ
replayed image before = (length (reported image), reported image ++ drop (length (reported image)) before, (image_run image).memory.bytes)

-- The trace of a plain history with its due cycles, and that of a pipelined run.
use Rattle.std.specs.Prelude.{ℕ, zero, suc, ◌+◌, cond, List, [], ◌++◌}
use Rattle.clocked.specs.Record.{StageW}
use Rattle.clocked.specs.Record.{bubble_w, in_w}
use Rattle.machine.specs.Types.{is_bad}
use Rattle.machine.specs.Memory.{value}
use Rattle.machine.specs.Plain.{Plain, accessed, steps}
use Rattle.clocked.specs.Prediction.{Core}
use Rattle.clocked.specs.Charges.{due}
use Rattle.clocked.specs.Pipeline.{Piped, clock, clocks}
use Rattle.trace.specs.Line.{target_of, trace_line}

-- the line of instruction n + 1 of "the plain engine's run with its cycles", from s: it is performed on steps s n, and 15 reads 0, so a dash
-- has "value 0"
unfoldable pub plain_line : Core → Plain → ℕ → List ℕ
plain_line g s n =
    let q = target_of (accessed (steps s n)) in
    trace_line (suc n) (steps s n).machine.address (due g s (suc n)) q (value (steps s (suc n)).machine.registers q)

-- its first n lines
unfoldable pub plain_text : Core → Plain → ℕ → List ℕ
plain_text g s zero = []
plain_text g s (suc n) = plain_text g s n ++ plain_line g s n

-- what a clock of the pipeline writes: the line of the instruction that retires in it
unfoldable pub line_in : Core → Piped → StageW → List ℕ
line_in g p bubble_w = []
line_in g p (in_w w) =
    let q = target_of w in
    trace_line (p.pipeline.retired + 1) w.instruction.address (p.pipeline.cycles + 1) q (value (clock g p).pipeline.registers q)

-- from a stop on nothing retires
unfoldable pub line_now : Core → Piped → List ℕ
line_now g p = cond (is_bad p.pipeline.status) [] (line_in g p p.pipeline.w)

-- the trace of c clocks from p, "a line for each" retirement
unfoldable pub pipe_text : Core → Piped → ℕ → List ℕ
pipe_text g p zero = []
pipe_text g p (suc c) = pipe_text g p c ++ line_now g (clocks g p c)

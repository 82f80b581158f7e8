use native.Mathlib.Omega.{arith}
use Rattle.text.specs.Put.{put_front}
use Rattle.trace_lines.specs.Length.{line_length}
use Rattle.trace_lines.proofs.write_line.Goals as goal

pub returns : goal.returns
returns c =
    let l = c.args.line in
    rw c.length.ensures
    (put_front c.new-writer.ensures c.put_line.ensures
    (omega (arith, line_length l.number l.address l.cycle l.target l.value (omega arith) (omega arith) (omega arith) (omega arith))))

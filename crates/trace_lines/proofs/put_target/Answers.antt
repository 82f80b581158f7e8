use borrow.Author.Tests.{lt-ltb, le-ltb}
use native.Mathlib.Omega.{arith}
use Rattle.text.specs.Bytes.{bytes}
use Rattle.trace.specs.Line.{target_text}
use Rattle.trace_lines.proofs.put_target.Goals as goal

pub returns-then-target-lt-NONE : goal.returns-then-target-lt-NONE
unfolding target_text
returns-then-target-lt-NONE c = rw (lt-ltb c.args.target 15 (omega arith)) (rw c.from.ensures at c.put_named.ensures)

pub returns-else-target-lt-NONE : goal.returns-else-target-lt-NONE
unfolding target_text bytes
returns-else-target-lt-NONE c = rw (le-ltb c.args.target 15 (omega arith)) c.put_number.ensures

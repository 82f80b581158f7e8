use mathlib.Core.List.{append-nil}
use mathlib.Core.Path.{◌∙◌}
use native.Mathlib.Omega.{arith}
use borrow.Author.Tests.{lt-ltb, le-ltb}
use Rattle.text.specs.Put.{put_both}
use Rattle.machine.specs.Table.{row_of}
use Rattle.encoding.specs.Encode.{form, tail}
use Rattle.encoding.proofs.Ways.{small, constant_bytes}
use Rattle.encoding.proofs.Fields.put.Goals as goal

pub overflow_mul-self : goal.overflow_mul-self
overflow_mul-self c = omega (arith, (small _ c.requires).code)

pub overflow_add-self : goal.overflow_add-self
overflow_add-self c =
    let s = small _ c.requires in
    omega (arith, s.code, s.function)

pub overflow_cast-self : goal.overflow_cast-self
overflow_cast-self c =
    let s = small _ c.requires in
    omega (arith, s.code, s.function)

pub overflow_cast-self-2 : goal.overflow_cast-self-2
overflow_cast-self-2 c = omega (arith, (small _ c.requires).code)

pub returns-then-size_of-gt8 : goal.returns-then-size_of-gt8
unfolding form tail
returns-then-size_of-gt8 c =
    rw (lt-ltb 8 (row_of c.args.self.code).size (omega (arith, c.size_of.ensures)))
    (put_both c.byte.ensures (put_both c.put_pair.ensures (rw (c.to_le_bytes.ensures ∙ constant_bytes _) at c.text.ensures)))

pub returns-else-size_of-gt8 : goal.returns-else-size_of-gt8
unfolding form tail
returns-else-size_of-gt8 c =
    rw (le-ltb 8 (row_of c.args.self.code).size (omega (arith, c.size_of.ensures)), append-nil)
    (put_both c.byte.ensures c.put_pair.ensures)

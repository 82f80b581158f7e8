use native.Mathlib.Omega.{arith}
use Rattle.text.specs.Put.{put_nothing}
use Rattle.encoding.proofs.Ways.{small, pair_small, one_pair, no_pair}
use Rattle.encoding.proofs.Fields.put_pair.Goals as goal

pub overflow_cast-self : goal.overflow_cast-self
overflow_cast-self c = omega (arith, (small _ c.requires).code)

pub overflow_mul-high : goal.overflow_mul-high
overflow_mul-high c =
    let s = small _ c.requires in
    omega (arith, pair_small _ _ c.byte_of-byte.ensures c.args.self.ra c.args.self.rb _ _ c.names_a-a.ensures c.names_b-b.ensures _ _ c.half-high.ensures c.half-low.ensures s.high s.low)

pub overflow_add-high : goal.overflow_add-high
overflow_add-high c =
    let s = small _ c.requires in
    omega (arith, pair_small _ _ c.byte_of-byte.ensures c.args.self.ra c.args.self.rb _ _ c.names_a-a.ensures c.names_b-b.ensures _ _ c.half-high.ensures c.half-low.ensures s.high s.low)

pub overflow_cast-high : goal.overflow_cast-high
overflow_cast-high c =
    let s = small _ c.requires in
    omega (arith, pair_small _ _ c.byte_of-byte.ensures c.args.self.ra c.args.self.rb _ _ c.names_a-a.ensures c.names_b-b.ensures _ _ c.half-high.ensures c.half-low.ensures s.high s.low)

pub returns-then-a-b : goal.returns-then-a-b
returns-then-a-b c =
    rw (← one_pair _ _ c.byte_of-byte.ensures c.args.self.ra c.args.self.rb _ _ c.names_a-a.ensures c.names_b-b.ensures _ _ c.if-a-b.true c.half-high.ensures c.half-low.ensures)
    c.byte.ensures

pub returns-else-a-b : goal.returns-else-a-b
returns-else-a-b c =
    rw (← no_pair _ _ c.byte_of-byte.ensures c.args.self.ra c.args.self.rb _ _ c.names_a-a.ensures c.names_b-b.ensures c.if-a-b.false)
    (put_nothing _ (omega arith))

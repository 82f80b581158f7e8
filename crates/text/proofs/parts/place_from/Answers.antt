use native.Mathlib.Omega.{arith}
use Rattle.text.proofs.Places.{from_there}
use Rattle.text.proofs.parts.place_from.Goals as goal

pub overflow_add-result : goal.overflow_add-result
overflow_add-result c =
    omega (arith, (from_there c.args.c c.args.s.now c.args.at c.place.result c.requires c.place.ensures).1)

pub returns : goal.returns
returns c = from_there _ _ _ _ c.requires c.place.ensures

use Rattle.fetching.proofs.Parse.{some_byte}
use native.Mathlib.Omega.{arith}
use Rattle.fetching.proofs.register_byte.Goals as goal

pub overflow_add-at : goal.overflow_add-at
overflow_add-at c = omega (arith, c.requires (some_byte _ c.in_default.not-NoByte))

pub bounds-memory-at : goal.bounds-memory-at
bounds-memory-at c = c.requires (some_byte _ c.in_default.not-NoByte)

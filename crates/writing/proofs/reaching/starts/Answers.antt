use Rattle.writing.proofs.There.{starts_is}
use mathlib.Core.Path.{refl}
use Rattle.machine.specs.Memory.{lent, seen_to, code_end}
use native.Mathlib.Omega.{arith}
use Rattle.writing.proofs.reaching.starts.Goals as goal

pub returns : goal.returns
unfolding code_end seen_to
returns c =
    starts_is (lent c.args.memory.now) c.args.address c.requires.0 refl _ _ _ _ c.requires.1 c.byte_at-first.ensures c.byte_at-pair.ensures
    (omega arith) (rw (c.from.ensures, c.from-2.ensures, c.from-3.ensures, c.from-4.ensures) at c.refused.ensures)

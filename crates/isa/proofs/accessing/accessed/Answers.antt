use mathlib.Core.Path.{refl}
use Rattle.isa.specs.Decisions.{accessed_with}
use Rattle.isa.proofs.accessing.accessed.Goals as goal

pub returns : goal.returns
unfolding accessed_with
returns c = refl

use mathlib.Core.Path.{◌∙◌, sym}
use native.Mathlib.Omega.{arith}
use Rattle.encoding.specs.Back.{form_length}
use Rattle.encoding.proofs.Ways.{small}
use Rattle.encoding.proofs.Fields.length.Goals as goal

pub overflow_cast-self : goal.overflow_cast-self
overflow_cast-self c = omega (arith, (small _ c.requires).code)

pub returns : goal.returns
returns c = c.size_of.ensures ∙ sym (form_length c.args.self)

use mathlib.Core.Path.{◌∙◌}
use native.Mathlib.Omega.{arith}
use Rattle.encoding.proofs.Ways.{no_such_code, no_such_function, by_registers}
use Rattle.encoding.proofs.Fields.refused.Goals as goal

pub returns-then-self : goal.returns-then-self
returns-then-self c = no_such_code _ (omega arith)

pub returns-then-from-self : goal.returns-then-from-self
returns-then-from-self c = no_such_function _ _ (c.from.ensures ∙ c.functions_of.ensures) c.if-from-self.true

pub returns : goal.returns
returns c =
    by_registers _ _ _ _ _ (c.from.ensures ∙ c.functions_of.ensures) c.if-from-self.false c.byte_of-byte.ensures c.names_a.ensures c.names_b.ensures

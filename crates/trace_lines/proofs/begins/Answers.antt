use mathlib.Core.Path.{◌∙◌}
use Rattle.trace_lines.proofs.Ways.{begins_is}
use Rattle.trace_lines.proofs.begins.Goals as goal

pub returns : goal.returns
returns c = c.starts_with.ensures.value ∙ begins_is _ _

use Rattle.plain.proofs.Ways.{one_step}
use Rattle.plain.proofs.step.Goals as goal

pub returns : goal.returns
returns c = one_step _ _ _ _ _ _ _ c.run.ensures

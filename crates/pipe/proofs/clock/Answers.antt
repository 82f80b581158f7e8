use Rattle.pipe.proofs.Entries.{one_clock}
use Rattle.pipe.proofs.clock.Goals as goal

pub returns : goal.returns
returns c = one_clock _ _ _ c.run_unlogged.ensures

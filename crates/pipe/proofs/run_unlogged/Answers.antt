use Rattle.pipe.proofs.Entries.{without_logs}
use Rattle.pipe.proofs.run_unlogged.Goals as goal

pub returns : goal.returns
returns c =
    without_logs _ _ _ _ _ _ _ _ c.perform.ensures

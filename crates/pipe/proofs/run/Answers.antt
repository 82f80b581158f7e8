use Rattle.pipe.proofs.Entries.{with_logs}
use Rattle.pipe.proofs.run.Goals as goal

pub returns : goal.returns
returns c =
    with_logs _ _ _ _ _ _ c.perform.ensures

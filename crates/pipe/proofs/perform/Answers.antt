-- What is refused is given back as it was (`Entries` `refused`). What is not meets the loop's `requires` (`Entries` `accepted`), and the loop's answer
-- is the run's (`Entries` `not_refused`).
use Rattle.pipe.proofs.Entries.{refused, not_refused, accepted}
use Rattle.pipe.proofs.perform.Goals as goal

pub looped-requires : goal.looped-requires
looped-requires c = accepted _ _ _ _ c.in-Ok.ensures

pub returns-in-Ok : goal.returns-in-Ok
returns-in-Ok c = not_refused _ _ _ _ _ _ c.in-Ok.ensures _ _ _ _ c.looped.ensures

pub returns-in-Err : goal.returns-in-Err
returns-in-Err c = refused _ _ _ _ _ _ _ c.in-Err.ensures

use Rattle.together.proofs.Ways.{plain_refused_lem, plain_runs}
use Rattle.together.proofs.run_plain.Goals as goal

pub returns-in_err-machine : goal.returns-in_err-machine
returns-in_err-machine c =
    plain_refused_lem _ _ _ _ _ _ _ _ _ c.from_residual.ensures.1 c.in_err-machine.ensures

pub returns : goal.returns
returns c =
    plain_runs _ _ _ _ _ _ _ _ _ c.in_ok-machine.ensures c.run.ensures

use Rattle.together.proofs.Ways.{pipe_refused_lem, pipe_runs}
use Rattle.together.proofs.run_pipe.Goals as goal

pub returns-in_err-pipeline : goal.returns-in_err-pipeline
returns-in_err-pipeline c =
    pipe_refused_lem _ _ _ _ _ _ _ _ _ _ c.from_residual.ensures.1 c.in_err-pipeline.ensures

pub returns : goal.returns
returns c =
    pipe_runs _ _ _ _ _ _ _ _ _ _ c.in_ok-pipeline.ensures c.run.ensures

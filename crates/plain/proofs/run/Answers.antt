use Rattle.plain.proofs.Ways.{within_limit, refuses, ends}
use Rattle.machine.specs.Memory.{lent}
use Rattle.plain.proofs.run.Goals as goal

pub run_on-requires : goal.run_on-requires
run_on-requires c = within_limit c.args.machine (lent c.args.memory.now) _ c.args.log.now c.in-Ok.ensures

pub returns-in-Ok : goal.returns-in-Ok
returns-in-Ok c = ends _ _ _ _ c.in-Ok.ensures _ _ _ c.run_on.ensures

pub returns-in-Err : goal.returns-in-Err
returns-in-Err c = refuses _ _ _ _ _ c.in-Err.ensures

use Rattle.machine.specs.Stages.{turned}
use Rattle.isa.proofs.executing.turned.Goals as goal

pub returns-then-taken : goal.returns-then-taken
unfolding turned
returns-then-taken c = cc

pub returns-else-taken : goal.returns-else-taken
unfolding turned
returns-else-taken c = cc

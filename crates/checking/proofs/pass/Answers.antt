use Rattle.checking.proofs.Lines.{passed_on_lem, made, stepped}
use Rattle.answers.specs.Numbers.{not_refused}
use Rattle.clocked.specs.Charges.{retired_of}
use Rattle.checking.proofs.pass.Goals as goal

pub unwrap-machine-requires : goal.unwrap-machine-requires
unwrap-machine-requires c =
    not_refused _ (made _ _ _ _ _ c.requires.0 c.requires.1 c.requires.2 c.step.ensures)

pub returns : goal.returns
unfolding retired_of
returns c =
    let few = c.requires.0 in
    let size = c.requires.1 in
    let window = c.requires.2 in
    let step = rw c.unwrap-machine.ensures at c.step.ensures in (
      passed_on_lem c.args.c _ _ _ _ c.args.due.x c.args.due.w _ _ _ few size window c.store_of.ensures step,
      (stepped _ _ _ _ _ few size window step).1,
    )

use Rattle.machine.specs.Stages.{straight}
use borrow.Author.Tests.{eq-eqb, ne_eqb}
use borrow.Author.Rules.{rules}
use Rattle.machine.specs.Table.{is}
use Rattle.isa.proofs.executing.straight.Goals as goal

pub returns-in-8 : goal.returns-in-8
unfolding straight is
returns-in-8 c = simp (eq-eqb _ _ c.in-8.is)

pub returns-in_default : goal.returns-in_default
unfolding straight is
returns-in_default c = simp (ne_eqb c.args.i.code 8 (search rules))

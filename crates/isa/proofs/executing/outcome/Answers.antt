use Rattle.isa.proofs.Ways.{tested, untested}
use borrow.Author.Rules.{rules}
use Rattle.isa.proofs.executing.outcome.Goals as goal

pub returns-in-2 : goal.returns-in-2
returns-in-2 c = search (rules, tested)

pub returns-in_default : goal.returns-in_default
returns-in_default c = search (rules, untested)

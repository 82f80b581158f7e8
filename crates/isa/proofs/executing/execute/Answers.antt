use Rattle.isa.proofs.Ways.{executed_is}
use borrow.Author.Rules.{rules}
use Rattle.isa.proofs.executing.execute.Goals as goal

pub returns : goal.returns
returns c = search (rules, executed_is)

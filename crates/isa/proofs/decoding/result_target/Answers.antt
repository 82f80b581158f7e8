use Rattle.isa.proofs.Ways.{lost, targeted}
use borrow.Author.Rules.{rules}
use Rattle.isa.proofs.decoding.result_target.Goals as goal

pub returns-then-i-holds : goal.returns-then-i-holds
returns-then-i-holds c = search (rules, lost)

pub returns-else-i-holds : goal.returns-else-i-holds
returns-else-i-holds c = search (rules, targeted)

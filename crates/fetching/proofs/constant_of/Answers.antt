use Rattle.fetching.proofs.Parse.{constant_there, no_constant}
use borrow.Author.Rules.{rules}
use Rattle.fetching.proofs.constant_of.Goals as goal

pub returns-then-size-gt8 : goal.returns-then-size-gt8
returns-then-size-gt8 c = search (rules, constant_there)

pub returns-else-size-gt8 : goal.returns-else-size-gt8
returns-else-size-gt8 c = search (rules, no_constant)

use Rattle.writing.proofs.There.{long_constant, no_constant}
use borrow.Author.Rules.{rules}
use Rattle.writing.proofs.remarks.constant_at.Goals as goal

pub returns-then-size-gt8 : goal.returns-then-size-gt8
returns-then-size-gt8 c = search (rules, long_constant)

pub returns : goal.returns
returns c = search (rules, no_constant)

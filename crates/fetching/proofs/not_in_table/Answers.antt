use Rattle.fetching.proofs.Blame.{code_there, function_there}
use borrow.Author.Rules.{rules}
use Rattle.fetching.proofs.not_in_table.Goals as goal

pub returns-then-functions-eq0 : goal.returns-then-functions-eq0
returns-then-functions-eq0 c = search (rules, code_there)

pub returns : goal.returns
returns c = search (rules, function_there)

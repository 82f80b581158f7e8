-- A law of `Blame` for each reason.
use Rattle.fetching.proofs.Blame.{none_at, first_at, code_at, function_at, later_at, register_at}
use borrow.Author.Rules.{rules}
use Rattle.fetching.proofs.fault_at.Goals as goal

pub returns-in-None : goal.returns-in-None
returns-in-None c = search (rules, none_at)

pub returns-in-Some-FirstMissing : goal.returns-in-Some-FirstMissing
returns-in-Some-FirstMissing c = search (rules, first_at)

pub returns-in-Some-NoCode : goal.returns-in-Some-NoCode
returns-in-Some-NoCode c = search (rules, code_at)

pub returns-in-Some-NoFunction : goal.returns-in-Some-NoFunction
returns-in-Some-NoFunction c = search (rules, function_at)

pub returns-in-Some-LaterMissing : goal.returns-in-Some-LaterMissing
returns-in-Some-LaterMissing c = search (rules, later_at)

pub returns-in-Some-NoRegister : goal.returns-in-Some-NoRegister
returns-in-Some-NoRegister c = search (rules, register_at)

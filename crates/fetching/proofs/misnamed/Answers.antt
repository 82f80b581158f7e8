use Rattle.fetching.proofs.Parse.{none_named, both, second_named, first_named}
use borrow.Author.Rules.{rules}
use Rattle.fetching.proofs.misnamed.Goals as goal

pub returns-in-NoByte : goal.returns-in-NoByte
returns-in-NoByte c = search (rules, none_named)

pub returns-in-BothNamed : goal.returns-in-BothNamed
returns-in-BothNamed c = search (rules, both)

pub returns-in-OnlyB : goal.returns-in-OnlyB
returns-in-OnlyB c = search (rules, second_named)

pub returns-in-OnlyA : goal.returns-in-OnlyA
returns-in-OnlyA c = search (rules, first_named)

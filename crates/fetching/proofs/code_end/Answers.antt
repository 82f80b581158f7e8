use Rattle.fetching.proofs.Parse.{all_seen, before_first, to_the_end}
use borrow.Author.Rules.{rules}
use Rattle.fetching.proofs.code_end.Goals as goal

pub returns-in-None : goal.returns-in-None
returns-in-None c = search (rules, all_seen)

pub returns-then-address-first : goal.returns-then-address-first
returns-then-address-first c = search (rules, before_first)

pub returns-else-address-first : goal.returns-else-address-first
returns-else-address-first c = search (rules, to_the_end)

use Rattle.fetching.proofs.Blame.{blamed}
use borrow.Author.Rules.{rules}
use Rattle.fetching.proofs.blame_of.Goals as goal

pub returns : goal.returns
returns c = search (rules, blamed)

use Rattle.machine.specs.Fetch.{size_at}
use borrow.Author.Rules.{rules}
use Rattle.writing.proofs.reaching.size_at.Goals as goal

pub returns : goal.returns
unfolding size_at
returns c = search rules

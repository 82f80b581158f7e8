use Rattle.isa.proofs.Ways.{accessed_by}
use borrow.Author.Rules.{rules}
use Rattle.isa.proofs.accessing.access.Goals as goal

pub returns : goal.returns
returns c = search (rules, accessed_by)

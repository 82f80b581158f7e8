use Rattle.isa.proofs.Ways.{patched_is}
use borrow.Author.Rules.{rules}
use Rattle.isa.proofs.accessing.MemoryAccess.patches.Goals as goal

pub returns : goal.returns
returns c = search (rules, patched_is)

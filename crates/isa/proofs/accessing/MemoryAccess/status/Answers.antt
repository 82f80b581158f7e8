use Rattle.isa.proofs.Ways.{failed, sound}
use borrow.Author.Rules.{rules}
use Rattle.isa.proofs.accessing.MemoryAccess.status.Goals as goal

pub returns-then-accesses-inside : goal.returns-then-accesses-inside
returns-then-accesses-inside c = search (rules, failed)

pub returns : goal.returns
returns c = search (rules, sound)

use Rattle.isa.proofs.Ways.{at_a, at_e}
use borrow.Author.Rules.{rules}
use Rattle.isa.proofs.accessing.MemoryAccess.address.Goals as goal

pub returns-in-LoadsAtA : goal.returns-in-LoadsAtA
returns-in-LoadsAtA c = search (rules, at_a)

pub returns-in_default : goal.returns-in_default
returns-in_default c = search (rules, at_e)

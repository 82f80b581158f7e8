use Rattle.isa.proofs.Ways.{next_stored, a_stored}
use borrow.Author.Rules.{rules}
use Rattle.isa.proofs.accessing.MemoryAccess.stored_word.Goals as goal

pub returns-in-StoresNext : goal.returns-in-StoresNext
returns-in-StoresNext c = search (rules, next_stored)

pub returns-in_default : goal.returns-in_default
returns-in_default c = search (rules, a_stored)

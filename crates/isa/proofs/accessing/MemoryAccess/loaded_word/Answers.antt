use Rattle.isa.proofs.Ways.{word_read, no_word}
use borrow.Author.Rules.{rules}
use Rattle.isa.proofs.accessing.MemoryAccess.loaded_word.Goals as goal

pub returns-then-loads : goal.returns-then-loads
returns-then-loads c = search (rules, word_read)

pub returns-else-loads : goal.returns-else-loads
returns-else-loads c = search (rules, no_word)

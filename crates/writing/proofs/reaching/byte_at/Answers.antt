use Rattle.writing.proofs.There.{byte_behind}
use borrow.Author.Rules.{rules}
use Rattle.writing.proofs.reaching.byte_at.Goals as goal

pub returns-else-at-memory : goal.returns-else-at-memory
returns-else-at-memory c = search (rules, byte_behind)

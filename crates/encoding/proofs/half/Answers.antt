use Rattle.machine.specs.Fetch.{half}
use borrow.Author.Rules.{rules}
use Rattle.encoding.proofs.half.Goals as goal

pub returns-then-named : goal.returns-then-named
unfolding half
returns-then-named c = search rules

pub returns-else-named : goal.returns-else-named
unfolding half
returns-else-named c = search rules

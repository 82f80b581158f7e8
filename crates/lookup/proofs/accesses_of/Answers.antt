use Rattle.lookup.proofs.Entries.{column}
use borrow.Author.Rules.{rules}
use Rattle.machine.specs.Table.{Row, table}
use Rattle.lookup.specs.Kinds.{accesses_meant}
use Rattle.lookup.proofs.accesses_of.Goals as goal

pub returns : goal.returns
unfolding table accesses_meant
returns c = search (rules, column accesses_meant (λ (r : Row). r.accesses))

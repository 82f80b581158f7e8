use Rattle.lookup.proofs.Entries.{column}
use borrow.Author.Rules.{rules}
use Rattle.machine.specs.Table.{Row, table}
use Rattle.lookup.specs.Kinds.{byte_meant}
use Rattle.lookup.proofs.byte_of.Goals as goal

pub returns : goal.returns
unfolding table byte_meant
returns c = search (rules, column byte_meant (λ (r : Row). r.byte))

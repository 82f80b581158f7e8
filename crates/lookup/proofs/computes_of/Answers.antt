use Rattle.lookup.proofs.Entries.{column}
use borrow.Author.Rules.{rules}
use Rattle.machine.specs.Table.{Row, table}
use Rattle.lookup.specs.Kinds.{computes_meant}
use Rattle.lookup.proofs.computes_of.Goals as goal

pub returns : goal.returns
unfolding table computes_meant
returns c = search (rules, column computes_meant (λ (r : Row). r.computes))

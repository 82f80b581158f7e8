use Rattle.lookup.proofs.Entries.{column}
use borrow.Author.Rules.{rules}
use Rattle.machine.specs.Table.{Row, table}
use Rattle.lookup.specs.Kinds.{which_meant}
use Rattle.lookup.proofs.loaded_of.Goals as goal

pub returns : goal.returns
unfolding table which_meant
returns c = search (rules, column which_meant (λ (r : Row). r.loaded))

use Rattle.lookup.proofs.Entries.{column}
use borrow.Author.Rules.{rules}
use Prim.Native.Nat.{ℕ}
use Rattle.machine.specs.Table.{Row, table}
use Rattle.lookup.proofs.size_of.Goals as goal

pub returns : goal.returns
unfolding table
returns c = search (rules, column (λ (n : ℕ). n) (λ (r : Row). r.size))

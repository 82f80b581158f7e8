use Rattle.isa.proofs.Ways.{back_to, jumps_to, goes_on_lem}
use borrow.Author.Rules.{rules}
use Rattle.isa.proofs.executing.next_address.Goals as goal

pub returns-in-9 : goal.returns-in-9
returns-in-9 c = search (rules, back_to)

pub returns-in-7 : goal.returns-in-7
returns-in-7 c = search (rules, jumps_to)

pub returns-in_default : goal.returns-in_default
returns-in_default c = search (rules, goes_on_lem)

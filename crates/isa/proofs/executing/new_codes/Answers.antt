use Rattle.isa.proofs.Ways.{codes_operated, codes_added, codes_kept}
use borrow.Author.Rules.{rules}
use Rattle.isa.proofs.executing.new_codes.Goals as goal

pub returns-in-6 : goal.returns-in-6
returns-in-6 c = search (rules, codes_operated)

pub returns-in-12 : goal.returns-in-12
returns-in-12 c = search (rules, codes_added)

pub returns-in_default : goal.returns-in_default
returns-in_default c = search (rules, codes_kept)

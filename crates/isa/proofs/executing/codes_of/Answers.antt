use Rattle.isa.proofs.Ways.{set_codes}
use borrow.Author.Rules.{rules}
use Rattle.isa.proofs.executing.codes_of.Goals as goal

pub returns : goal.returns
returns c = search (rules, set_codes)

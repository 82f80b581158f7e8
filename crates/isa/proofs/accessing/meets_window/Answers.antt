use Rattle.isa.proofs.Ways.{no_window_met, window_met}
use borrow.Author.Rules.{rules}
use Rattle.isa.proofs.accessing.meets_window.Goals as goal

pub returns-in-None : goal.returns-in-None
returns-in-None c = search (rules, no_window_met)

pub returns-in-Some : goal.returns-in-Some
returns-in-Some c = search (rules, window_met)

use mathlib.Core.Logic.{inr}
use mathlib.Core.Path.{refl}
use borrow.Author.Rules.{rules}
use Rattle.input.proofs.answer.Goals as goal

pub returns : goal.returns
returns g c = inr (_, _, _, _, _, search rules, refl, refl, c.work.ensures)

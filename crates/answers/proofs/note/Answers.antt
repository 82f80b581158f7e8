use mathlib.Core.Path.{sym}
use lib.Seq.{set_out}
use borrow.Author.Rules.{rules}
use Rattle.answers.proofs.note.Goals as goal

pub returns-else-at-log : goal.returns-else-at-log
returns-else-at-log c = sym (set_out _ _ _ (search rules))

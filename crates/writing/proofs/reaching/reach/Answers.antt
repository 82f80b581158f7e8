use mathlib.Core.Bool.{true, false}
use mathlib.Core.Path.{◌≡◌, ◌∙◌, sym}
use Rattle.machine.specs.Memory.{lent}
use Rattle.writing.specs.Text.{line_bytes}
use Rattle.writing.proofs.Reach.{whole_is, bytes_are, crosses_is}
use Rattle.writing.proofs.reaching.reach.Goals as goal
use Rattle.writing.proofs.reaching.reach.Goals.{then-whole, else-whole}

pub returns : goal.returns
returns c =
    let m = lent c.args.memory.now in
    let a = c.args.address in
    let e = c.args.end in
    let x = c.starts-started.ensures in
    let n = c.size_at-size.ensures.0 in
    let whole = whole_is m a e _ c.args.cut _ x n in
    let count : c.if-whole.result ≡ line_bytes c.args.cut m a e = elim c.if-whole.branch [
      | then-whole w ↦ w.result-is ∙ bytes_are m a e _ c.args.cut _ x n true (sym w.if-whole.true ∙ whole)
      | else-whole w ↦ w.result-is ∙ bytes_are m a e _ c.args.cut _ x n false (sym w.if-whole.false ∙ whole)
    ] in
    (whole, count, crosses_is m a e _ c.args.cut _ x n)

use native.Mathlib.Omega.{arith}
use Rattle.machine.specs.Memory.{lent}
use Rattle.writing.specs.Back.{line_bytes_lem, whole_within}
use Rattle.writing.proofs.Line.{line_length}
use Rattle.writing.proofs.Loop.{begins, turn, ends, stays_short}
use mathlib.Core.Path.{◌∙◌, sym}
use Rattle.writing.proofs.put_listing.Goals as goal

pub loop-at-init : goal.loop-at-init
loop-at-init c = begins _ _ _ _ (omega arith)

pub put_line-requires : goal.put_line-requires
put_line-requires c =
    let m = lent c.args.memory.now in
    let r = c.reach-next.ensures in
    let b = line_bytes_lem c.loop-at.cut m c.loop-at.at c.args.end c.loop-at-test.true in (
      omega (arith, b.2, r.1, c.requires.0),
      λ t. omega (arith, whole_within c.loop-at.cut m c.loop-at.at c.args.end (sym r.0 ∙ t), c.requires.0),
      c.requires.1,
    )

pub overflow_add-at : goal.overflow_add-at
overflow_add-at c =
    let b = line_bytes_lem c.loop-at.cut (lent c.args.memory.now) c.loop-at.at c.args.end c.loop-at-test.true in
    omega (arith, b.2, c.reach-next.ensures.1, c.requires.0, c.requires.1)

pub loop-at-smaller : goal.loop-at-smaller
loop-at-smaller c =
    let b = line_bytes_lem c.loop-at.cut (lent c.args.memory.now) c.loop-at.at c.args.end c.loop-at-test.true in
    omega (arith, b.0, b.2, c.reach-next.ensures.1)

pub loop-at-preserved : goal.loop-at-preserved
loop-at-preserved c =
    let m = lent c.args.memory.now in
    let r = c.reach-next.ensures in
    let b = line_bytes_lem c.loop-at.cut m c.loop-at.at c.args.end c.loop-at-test.true in
    turn _ _ _ _ _ _ _ _ c.loop-at.invariant c.loop-at-test.true r.0 r.1 r.2 c.put_line.ensures
    (line_length m c.loop-at.at c.type_inv.memory c.reach-next.result.count c.reach-next.result.whole (omega (arith, b.1, r.1)))

pub returns-clause-put : goal.returns-clause-put
returns-clause-put c = ends _ _ _ _ _ c.loop-at.invariant c.loop-at-test.false

pub returns-clause-short : goal.returns-clause-short
returns-clause-short c =
    omega (arith, stays_short _ _ _ _ _ c.loop-at.invariant c.loop-at-test.false, c.requires.0, c.requires.1)

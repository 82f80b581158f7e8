use Rattle.plain.proofs.Ways.{goes_first, goes_on_lem, goes_over, bad_by_test}
use native.Mathlib.Omega.{arith}
use borrow.Author.Rules.{rules}
use Rattle.machine.specs.Memory.{lent}
use Rattle.plain.proofs.run_on.Goals as goal

pub loop-done-init : goal.loop-done-init
loop-done-init c =
    goes_first _ (lent c.args.memory.now) _ _ c.requires

pub advance-s-requires : goal.advance-s-requires
advance-s-requires c =
    (omega (arith, c.loop-done.invariant.counted), bad_by_test _ _ _ c.ne.ensures c.if-ne.false)

pub loop-done-preserved : goal.loop-done-preserved
loop-done-preserved c =
    goes_on_lem _ _ _ _ _ _ _ _ c.loop-done.invariant _ _ _ c.loop-done-test.true (bad_by_test _ _ _ c.ne.ensures c.if-ne.false)
    (search (rules, c.advance-s.auto)) c.note.ensures c.advance-s.ensures

pub returns-then-ne : goal.returns-then-ne
returns-then-ne c =
    goes_over _ _ _ _ _ _ _ _ c.loop-done.invariant (bad_by_test _ _ _ c.ne.ensures c.if-ne.true)

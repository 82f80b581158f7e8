use mathlib.Core.Path.{◌≡◌, sym, ◌∙◌}
use native.Mathlib.Omega.{arith}
use lib.ListN.{length}
use borrow.Author.Rules.{rules}
use Rattle.machine.specs.Memory.{lent}
use Rattle.pipe.proofs.Runs.{here_first, here_next, here_stopped, at_budget, at_stop, same_start, small_enough}
use Rattle.pipe.proofs.running.looped.Goals as goal
use Rattle.pipe.proofs.running.looped.Goals.{else-loop-done-test, then-loop-done-test+then-is_bad, then-loop-done-test+else-is_bad+then-bad_in_w}

pub loop-done-init : goal.loop-done-init
loop-done-init c =
    let long_of : length c.args.pipeline.registers ≡ 15 = search rules in
    here_first _ (lent c.args.memory.now) c.flow_of-flow.ensures long_of c.tally_of-tally.ensures c.requires.1
    (omega (arith, c.requires.0))

pub overflow_sub-place : goal.overflow_sub-place
overflow_sub-place c =
    omega (arith, c.loop-done.invariant.entered)

pub counted-tally-requires : goal.counted-tally-requires
counted-tally-requires c =
    small_enough _ _ (omega arith) c.loop-done.invariant.small

pub advance-flow-requires : goal.advance-flow-requires
advance-flow-requires c =
    (c.loop-done.invariant.long, c.loop-done.invariant.ahead)

pub loop-done-preserved : goal.loop-done-preserved
loop-done-preserved c =
    let inv = c.loop-done.invariant in
    here_next inv c.is_bad.ensures c.if-is_bad.false c.retires-retired.ensures c.counted-tally.ensures
    c.status_after-status.ensures c.note.ensures c.note-in-loop-done.ensures c.bad_in_w.ensures c.if-bad_in_w.false
    c.advance-flow.ensures.0 c.advance-flow.ensures.1 c.advance-flow.ensures.2

pub returns : goal.returns
returns c =
    let inv = c.loop-done.invariant in
    let lent₀ = lent c.args.memory.now in
    let from = same_start lent₀ c.flow_of-flow.ensures c.tally_of-tally.ensures in
    let end = c.put_together.ensures in
    elim c.loop-done-test.branch [
      | else-loop-done-test w ↦
          at_budget lent₀ _ from inv end w.blame-is w.addresses-is w.cycles-is w.tally-is w.status-is (omega arith)
      | then-loop-done-test+then-is_bad w ↦
          at_stop lent₀ _ from inv end w.blame-is w.addresses-is w.cycles-is w.tally-is w.status-is (omega arith) (sym w.is_bad.ensures ∙ w.if-is_bad.true)
      | then-loop-done-test+else-is_bad+then-bad_in_w w ↦
          let h =
          here_stopped inv w.is_bad.ensures w.if-is_bad.false w.retires-retired.ensures w.counted-tally.ensures w.status_after-status.ensures w.note.ensures
          w.note-in-loop-done.ensures w.bad_in_w.ensures w.if-bad_in_w.true w.blame_in-blame.ensures
          in
          at_stop lent₀ _ from h.0 end w.blame-is w.addresses-is w.cycles-is w.tally-is w.status-is (omega (arith, w.loop-done-test.true)) h.1
    ]

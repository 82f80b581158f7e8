use Rattle.std.proofs.Common.{rules, tests, arith}
use Rattle.std.proofs.lemmas.Grind.{common_steps}
use Rattle.std.proofs.lemmas.List.{length_push}
use Rattle.std.proofs.lemmas.Iterator.Consumers.{YieldsList-from_enumerate, YieldsList-turn, YieldsList-end}
use Rattle.text.proofs.Lines.{YieldsList-from_split_inclusive, numbered}
use Rattle.std.proofs.lemmas.List.FromFn.{length-enumerate_from}
use Rattle.text.specs.Parts.{lines}
use Rattle.listing.proofs.Judgement.{line_fed, judges_none, judges_more, judges_all, wrong_line}
use Rattle.listing.proofs.judging.judge.Goals as goal

pub check_ended-requires : goal.check_ended-requires
check_ended-requires c =
    let y = YieldsList-from_enumerate (YieldsList-from_split_inclusive _ c.args.text.now (cc) (cc) (λ x b q k. search (rules, tests))) (cc) in
    let t = YieldsList-turn y c.loop-passed.yielded _ c.loop-passed.yielded_by _ _ (c.in-Some.passed, c.in-Some.line) c.in-Some.is c.next.ensures.steps in
    let m = numbered _ _ _ _ t in
    line_fed _ _ _ (m.0, m.2)

pub returns-in_err-free : goal.returns-in_err-free
returns-in_err-free c =
    let y = YieldsList-from_enumerate (YieldsList-from_split_inclusive _ c.args.text.now (cc) (cc) (λ x b q k. search (rules, tests))) (cc) in
    let t = YieldsList-turn y c.loop-passed.yielded _ c.loop-passed.yielded_by _ _ (c.in-Some.passed, c.in-Some.line) c.in-Some.is c.next.ensures.steps in
    let m = numbered _ _ _ _ t in
    let w = wrong_line _ _ _ _ c.loop-passed.invariant _ (m.0, m.2) _ c.check_ended.ensures in
    let e = c.in_err-free.ensures.cases in
    let v = c.in_err-free.ensures.variant in
    let f = c.from_residual.ensures in
    grind (arith, common_steps, w)

pub loop-passed-preserved : goal.loop-passed-preserved
loop-passed-preserved c =
    let y = YieldsList-from_enumerate (YieldsList-from_split_inclusive _ c.args.text.now (cc) (cc) (λ x b q k. search (rules, tests))) (cc) in
    let t = YieldsList-turn y c.loop-passed.yielded _ c.loop-passed.yielded_by _ _ (c.in-Some.passed, c.in-Some.line) c.in-Some.is c.next.ensures.steps in
    let m = numbered _ _ _ _ t in
    let w = judges_more _ _ _ _ c.loop-passed.invariant _ (m.0, m.2) _ c.check_ended.ensures in
    let e = c.in_ok-free.ensures.cases in
    let v = c.in_ok-free.ensures.variant in
    grind (arith, common_steps, w, length_push c.loop-passed.yielded (c.in-Some.passed, c.in-Some.line))

pub returns : goal.returns
returns c =
    let y = YieldsList-from_enumerate (YieldsList-from_split_inclusive _ c.args.text.now (cc) (cc) (λ x b q k. search (rules, tests))) (cc) in
    let t = YieldsList-end y c.loop-passed.yielded _ c.loop-passed.yielded_by _ _ c.in-None.is c.next.ensures.steps in
    judges_all _ _ _ _ c.loop-passed.invariant (omega (arith, t.1, length-enumerate_from 0 (lines c.args.text.now)))

pub loop-passed-init : goal.loop-passed-init
loop-passed-init c = judges_none _ _

use Rattle.std.proofs.Common.{rules, tests}
use Rattle.std.proofs.lemmas.List.{length_push}
use Rattle.std.proofs.lemmas.Iterator.Consumers.{YieldsList-turn, YieldsList-end}
use Rattle.text.proofs.Lines.{YieldsList-from_split_inclusive}
use Rattle.listing.proofs.Judgement.{line_fed}
use Rattle.listing.proofs.Lines.{lays_none, lays_fits, lays_more, lays_all}
use Rattle.listing.proofs.laying.lay.Goals as goal

pub loop-line-init : goal.loop-line-init
loop-line-init c = lays_none _ _ c.requires

pub unended-requires : goal.unended-requires
unended-requires c =
    let y = YieldsList-from_split_inclusive _ c.args.text.now (cc) (cc) (λ x b q k. search (rules, tests)) in
    let t = YieldsList-turn y c.loop-line.yielded _ c.loop-line.yielded_by _ _ c.in-Some.line c.in-Some.is c.next.ensures.steps in
    line_fed _ _ _ t

pub lay_line-requires : goal.lay_line-requires
lay_line-requires c =
    let y = YieldsList-from_split_inclusive _ c.args.text.now (cc) (cc) (λ x b q k. search (rules, tests)) in
    let t = YieldsList-turn y c.loop-line.yielded _ c.loop-line.yielded_by _ _ c.in-Some.line c.in-Some.is c.next.ensures.steps in
    lays_fits _ _ _ _ c.loop-line.invariant _ t _ c.unended.ensures

pub loop-line-preserved : goal.loop-line-preserved
loop-line-preserved c =
    let y = YieldsList-from_split_inclusive _ c.args.text.now (cc) (cc) (λ x b q k. search (rules, tests)) in
    let t = YieldsList-turn y c.loop-line.yielded _ c.loop-line.yielded_by _ _ c.in-Some.line c.in-Some.is c.next.ensures.steps in
    rw (length_push c.loop-line.yielded c.in-Some.line) (lays_more _ _ _ _ c.loop-line.invariant _ t _ _ c.unended.ensures c.lay_line.ensures)

pub returns : goal.returns
returns c =
    let y = YieldsList-from_split_inclusive _ c.args.text.now (cc) (cc) (λ x b q k. search (rules, tests)) in
    let t = YieldsList-end y c.loop-line.yielded _ c.loop-line.yielded_by _ _ c.in-None.is c.next.ensures.steps in
    lays_all _ _ _ _ c.loop-line.invariant t.1

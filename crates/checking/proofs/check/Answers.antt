use Rattle.checking.proofs.Turns.{starts, ready, ends, turns, less, breaks_off, fresh_machine}
use borrow.Author.Rules.{rules}
use Rattle.checking.proofs.check.Goals as goal

pub loop-c-init : goal.loop-c-init
loop-c-init c =
    starts _ _ _ _ _ c.at_start-c.ensures c.requires

pub check_line-requires : goal.check_line-requires
check_line-requires c =
    ready _ _ _ _ _ _ c.loop-c.invariant

pub loop-c-smaller : goal.loop-c-smaller
loop-c-smaller c =
    less _ _ _ _ _ _ c.loop-c.invariant c.loop-c-test.true _ _ c.check_line.ensures _ c.in-Ok.is

pub loop-c-preserved : goal.loop-c-preserved
loop-c-preserved c =
    turns _ _ _ _ _ _ c.loop-c.invariant c.loop-c-test.true _ _ c.check_line.ensures _ c.in-Ok.is (search (rules, c.check_line.auto))

pub returns-in-Err : goal.returns-in-Err
returns-in-Err c =
    breaks_off _ _ _ _ _ _ c.loop-c.invariant c.loop-c-test.true _ _ c.check_line.ensures _ c.in-Err.is c.args.machine (fresh_machine _ _ c.at_start-c.ensures)

pub returns : goal.returns
returns c =
    ends _ _ _ _ _ _ c.loop-c.invariant c.args.machine (fresh_machine _ _ c.at_start-c.ensures) c.loop-c-test.false

-- A refusal by `refuses`; else what was let in is run and written back, by `replays`.
use Rattle.answers.specs.Numbers.{numbered}
use Rattle.clocked.specs.Prediction.{as_in_01}
use Rattle.answers.specs.Numbers.{refused_on}
use Rattle.replay_ends.specs.Allowed.{allowed}
use Rattle.replay_ends.specs.Ends.{result_words}
use Rattle.edge.specs.Edge.{replayed}
use Rattle.edge.proofs.Ways.{refuses, replays, as_in_01_lem}
use borrow.Author.Rules.{rules}
use lib.ListN.{length}
use mathlib.Core.Path.{◌≡◌, refl}
use native.Mathlib.Omega.{arith}
use Rattle.edge.proofs.replayed.Goals as goal

pub returns-in_err-let_in : goal.returns-in_err-let_in
unfolding replayed
returns-in_err-let_in c =
    rw (refused_on _ _ c.from_residual.ensures.1) (refuses _ result_words _ as_in_01 _ _ _ _ _ _ _ c.in_err-let_in.ensures.number (numbered _))

pub replay-end-requires : goal.replay-end-requires
replay-end-requires c =
    (allowed _ _ _ _ _ _ _ _ _ c.in_ok-let_in.ensures.number refl).whole

pub write_words-requires : goal.write_words-requires
write_words-requires c =
    let room = (allowed _ _ _ _ _ _ _ _ _ c.in_ok-let_in.ensures.number refl).room in
    let five : length c.result_words.result ≡ 5 = search rules in
    omega arith

pub returns : goal.returns
returns c =
    as_in_01_lem _ _ _ _ _ _ _ _ c.as_in_01.ensures
    (replays _ result_words _ _ _ _ _ _ _ _ _ c.in_ok-let_in.ensures.number _ _ _ _ refl c.replay-end.ensures (cc))

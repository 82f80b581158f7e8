-- A refusal by `refuses`; else what was let in is run and written back, by `replays`.
use Rattle.answers.specs.Numbers.{numbered}
use Rattle.answers.specs.Numbers.{refused_on}
use Rattle.replay_ends.specs.Allowed.{allowed, is_chosen, which_chosen}
use Rattle.replay_ends.specs.Ends.{full_words}
use Rattle.edge.proofs.Ways.{replays, as_chosen, refused_as_chosen}
use borrow.Author.Rules.{rules}
use lib.ListN.{length}
use mathlib.Core.Path.{◌≡◌, refl}
use native.Mathlib.Omega.{arith}
use Rattle.edge.proofs.replayed_set.Goals as goal

pub returns-in_err-settings : goal.returns-in_err-settings
returns-in_err-settings c =
    rw (refused_on _ _ c.from_residual.ensures.1)
    (refused_as_chosen _ _ _ _ _ _ _ _ (is_chosen _ _ _ c.settings.ensures) _ c.in_err-settings.ensures.number (numbered _))

pub replay-end-requires : goal.replay-end-requires
replay-end-requires c =
    (allowed _ _ _ _ _ _ _ _ _ c.in_ok-settings.ensures.number refl).whole

pub write_words-requires : goal.write_words-requires
write_words-requires c =
    let room = (allowed _ _ _ _ _ _ _ _ _ c.in_ok-settings.ensures.number refl).room in
    let eleven : length c.full_words.result ≡ 11 = search rules in
    omega arith

pub returns : goal.returns
returns c =
    as_chosen _ _ _ _ _ _ _ _ (is_chosen _ _ _ c.settings.ensures) _ _ (which_chosen _ _ _ c.settings.ensures _ c.in_ok-settings.ensures.chosen)
    (replays _ full_words _ _ _ _ _ _ _ _ _ c.in_ok-settings.ensures.number _ _ _ _ refl c.replay-end.ensures (cc))

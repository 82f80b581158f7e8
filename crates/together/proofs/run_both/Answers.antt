use mathlib.Core.Path.{◌≡◌}
use lib.ListN.{length}
use Rattle.together.proofs.Ways.{both_ran}
use borrow.Author.Rules.{rules}
use Rattle.together.proofs.run_both.Goals as goal

pub returns : goal.returns
returns c =
    let long_of : length c.args.registers ≡ 15 = search rules in
    both_ran _ _ _ _ _ _ _ long_of _ c.run_plain-plain.ensures _ c.run_pipe-pipe.ensures

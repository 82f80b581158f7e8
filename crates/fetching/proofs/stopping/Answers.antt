use Rattle.machine.specs.Fetch.{stopping}
use mathlib.Core.Path.{refl}
use Rattle.fetching.proofs.stopping.Goals as goal

pub returns : goal.returns
unfolding stopping
returns c = refl

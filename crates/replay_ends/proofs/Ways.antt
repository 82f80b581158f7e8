-- The five result words, of the numbers that they are made of. Assumes nothing.
use Rattle.std.specs.Prelude.{◌≡◌, List, [], ◌∷◌, ℕ}
use Rattle.clocked.specs.declared.Pipeline.{Pipeline}
use Rattle.machine.specs.Types.{status_number, codes_number}
use Rattle.block.specs.Block.{with_words}
use Rattle.replay_ends.specs.Ends.{result_words}

pub result_is : (k : Pipeline) (b b' : List ℕ) (s c : ℕ) → s ≡ status_number k.status → c ≡ codes_number k.codes
    → b' ≡ with_words (s ∷ k.last ∷ c ∷ k.retired ∷ k.cycles ∷ []) b 0 → b' ≡ with_words (result_words k) b 0
unfolding result_words
result_is k b b' s c e f h = cc

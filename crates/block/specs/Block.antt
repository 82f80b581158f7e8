-- Lent blocks: a word in a block is 8 bytes, least first.
use Rattle.std.specs.Prelude.{ℕ, zero, suc, ◌+◌, List, [], ◌∷◌}
unfoldable pub use Rattle.machine.specs.Types.{codes_from}
use Rattle.machine.specs.Words.{number, placed}

-- the n words in the bytes b from a on
unfoldable pub words_in : ℕ → List ℕ → ℕ → List ℕ
words_in zero b a = []
words_in (suc n) b a = number 8 b a ∷ words_in n b (a + 8)

-- the bytes b with the words ws from a on
unfoldable pub with_words : List ℕ → List ℕ → ℕ → List ℕ
with_words [] b a = b
with_words (w ∷ ws) b a = with_words ws (placed 8 b a w) (a + 8)

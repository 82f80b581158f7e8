-- Listings at the edge (#103): the text is only read; memory becomes the image, or the block named fault takes the first faulty line.
use Rattle.std.specs.Prelude.{ℕ, cond, not, List, [], ◌∷◌, eqb, length}
use Rattle.machine.specs.Runs.{size_refused, lowest}
use Rattle.text.specs.Parts.{Text}
use Rattle.std.specs.Prelude.{Ok as right, Err as wrong}
use Rattle.listing.specs.declared.Unread.TheVariants.{Faulty as faulted}
use Rattle.listing.specs.Reading.{kind_number, Answer, refused, Answered, listed}
use Rattle.block.specs.Block.{with_words}

-- refusal 1 by the size of memory; 4: "fault not 16 bytes"
unfoldable pub listing_refusal : (memory fault : ℕ) → ℕ
listing_refusal memory fault = lowest ((1, size_refused memory) ∷ (4, not (eqb fault 16)) ∷ [])

-- 9, "a faulty line: `fault` takes its number and kind", as two words; on 0 it stays
unfoldable pub told : Answer → List ℕ → ℕ × List ℕ
told refused fault = (1, fault)
told (right u) fault = (0, fault)
told (wrong (faulted f)) fault = (9, with_words (f.line ∷ kind_number f.kind ∷ []) fault 0)

-- the answer, and what the two lent slices hold
pub record ListingEdge : Type 0 where
  pub answer : ℕ
  pub memory : List ℕ
  pub fault : List ℕ

abbrev pub listing_edge : ℕ → List ℕ → List ℕ → ListingEdge
listing_edge n m f = record { answer = n; memory = m; fault = f }

unfoldable pub told_of : Answered → List ℕ → ListingEdge
told_of a fault = listing_edge (told a.answer fault).0 a.memory (told a.answer fault).1

unfoldable pub listing_read : Text → List ℕ → List ℕ → ListingEdge
listing_read t m fault =
    let n = listing_refusal (length m) (length fault) in
    cond (eqb n 0) (told_of (listed t m) fault) (listing_edge n m fault)

-- #114 at the host edge: seven result words, and refusal 4 for a result block of another length.
use Rattle.std.specs.Prelude.{ℕ, cond, List, [], ◌∷◌, eqb, length, Option, None, Some, Result, Ok, Err}
use Rattle.machine.specs.Memory.{lent}
use Rattle.peaks.specs.declared.Day.{Day}
use Rattle.peaks.specs.declared.Refusal.{Refusal}
use Rattle.peaks.specs.declared.raw.Raw.{Raw}
use Rattle.peaks.specs.Types.{comparison_number, refusal_number}
use Rattle.peaks.specs.Mean.{mean_bits}
use Rattle.peaks.specs.Day.{judged}
use Rattle.block.specs.Block.{with_words}

-- good samples, peak, place, failed, sum, the mean's bits and the comparison; without a good sample peak, place, mean and comparison are 0
unfoldable pub words_of : Day → Option Raw → List ℕ
words_of d None = d.good ∷ 0 ∷ 0 ∷ d.failed ∷ d.sum ∷ 0 ∷ 0 ∷ []
words_of d (Some raw) =
    d.good ∷ raw.peak ∷ raw.place ∷ d.failed ∷ d.sum ∷ mean_bits raw.mean ∷ comparison_number raw.filed ∷ []

unfoldable pub day_words : Day → List ℕ
day_words d = words_of d d.found

-- the answer, and what the result block holds
pub record DayAt : Type 0 where
  pub answer : ℕ
  pub result : List ℕ

abbrev pub day_at : ℕ → List ℕ → DayAt
day_at n b = record { answer = n; result = b }

-- the day's own refusals are 1, 2 and 3, so that 4 is the last
unfoldable pub answered : Result Day Refusal → List ℕ → DayAt
answered (Err r) result = day_at (refusal_number r) result
answered (Ok d) result = cond (eqb (length result) 56) (day_at 0 (with_words (day_words d) result 0)) (day_at 4 result)

unfoldable pub day_answer : List ℕ → List ℕ → (table n filed : ℕ) → DayAt
day_answer memory result table n filed = answered (judged (lent memory) table n filed) result

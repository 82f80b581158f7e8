-- #114: days worked out by hand, and its refusals at their ends, in one table.
use Rattle.std.specs.Prelude.{ℕ, ◌-◌, ◌*◌, ◌^◌, Bool, true, false, ◌&&◌, List, [], ◌∷◌, ◌++◌, ◌≡◌, refl, eqb, replicate}
use Rattle.std.specs.Float.Ieee.{to_bits, round}
use Rattle.machine.specs.Memory.{lent, inside}
use Rattle.machine.specs.Words.{signed}
use Rattle.peaks.specs.Types.{comparison_number, refusal_number}
use Rattle.peaks.specs.Mean.{mean_of, mean_bits}
use Rattle.peaks.specs.Day.{is_good, good, failed, total, largest, first_place, peak_of, place_of, by_sign, compared, raw_of, found_in}
use Rattle.peaks.specs.Day.{day_of, refusals, or_refused, number_of, refusal_of}
use Rattle.day_edge.specs.Days.{words_of, day_words}

unfoldable pub same : List ℕ → List ℕ → Bool
same [] [] = true
same [] (x ∷ xs) = false
same (x ∷ xs) [] = false
same (x ∷ xs) (y ∷ ys) = eqb x y && same xs ys

-- a day's words and the filed one; then good samples, peak, place, failed, sum, the mean's bits and the comparison by its number
abbrev pub Worked : Type 0
Worked = List ℕ × ℕ × List ℕ

-- the largest good sample, the smallest failed one, and the largest word
abbrev most_good : ℕ
most_good = 2 ^ 32 - 1

abbrev least_failed : ℕ
least_failed = 2 ^ 32

abbrev last_word : ℕ
last_word = 2 ^ 64 - 1

unfoldable pub days : List Worked
days =
    -- no good sample, whatever is filed
    (least_failed ∷ [], 5, 0 ∷ 0 ∷ 0 ∷ 1 ∷ 0 ∷ 0 ∷ 0 ∷ [])
    ∷ (last_word ∷ least_failed ∷ [], least_failed, 0 ∷ 0 ∷ 0 ∷ 2 ∷ 0 ∷ 0 ∷ 0 ∷ [])
    -- one sample, filed as it is; a sample of 0 with 1 filed
    ∷ (7 ∷ [], 7, 1 ∷ 7 ∷ 0 ∷ 0 ∷ 7 ∷ 0x401c_0000_0000_0000 ∷ 2 ∷ [])
    ∷ (0 ∷ [], 1, 1 ∷ 0 ∷ 0 ∷ 0 ∷ 0 ∷ 0 ∷ 3 ∷ [])
    -- ties: the first of the largest, behind a smaller one and behind a failed one
    ∷ (3 ∷ 9 ∷ 2 ∷ 9 ∷ [], 8, 4 ∷ 9 ∷ 1 ∷ 0 ∷ 23 ∷ 0x4017_0000_0000_0000 ∷ 1 ∷ [])
    ∷ (least_failed ∷ 0 ∷ 0 ∷ [], 0, 2 ∷ 0 ∷ 1 ∷ 1 ∷ 0 ∷ 0 ∷ 2 ∷ [])
    -- 2^32 - 1 is good, 2^32 is not, as a sample and as what is filed
    ∷ (most_good ∷ least_failed ∷ last_word ∷ [], most_good, 1 ∷ most_good ∷ 0 ∷ 2 ∷ most_good ∷ 0x41ef_ffff_ffe0_0000 ∷ 2 ∷ [])
    ∷ (most_good ∷ [], least_failed, 1 ∷ most_good ∷ 0 ∷ 0 ∷ most_good ∷ 0x41ef_ffff_ffe0_0000 ∷ 4 ∷ [])
    ∷ (5 ∷ [], 2 ^ 63, 1 ∷ 5 ∷ 0 ∷ 0 ∷ 5 ∷ 0x4014_0000_0000_0000 ∷ 4 ∷ [])
    -- a mean that is rounded: 2/3, and 1/1,440 with the peak in the last place
    ∷ (1 ∷ 1 ∷ 0 ∷ [], 0, 3 ∷ 1 ∷ 0 ∷ 0 ∷ 2 ∷ 0x3fe5_5555_5555_5555 ∷ 1 ∷ [])
    ∷ (replicate 1439 0 ++ 1 ∷ [], 2, 1440 ∷ 1 ∷ 1439 ∷ 0 ∷ 1 ∷ 0x3f46_c16c_16c1_6c17 ∷ 3 ∷ [])
    -- 1,440 words that are as large as can be
    ∷ (replicate 1440 most_good, 0, 1440 ∷ most_good ∷ 0 ∷ 0 ∷ 1440 * most_good ∷ 0x41ef_ffff_ffe0_0000 ∷ 1 ∷ [])
    ∷ []

-- the bytes of memory, the table's address, its length, the filed peak's address, and the refusal
unfoldable pub asked : List (ℕ × ℕ × ℕ × ℕ × ℕ)
asked =
    -- 1 goes before 2, and 2 before 3
    (0, 0, 0, 0, 1)
    ∷ (24, 0, 0, 16, 1)
    ∷ (24, 0, 1441, 16, 1)
    ∷ (24, 0, 1440, 17, 2)
    ∷ (24, 0, 4, 16, 2)
    -- a table and a peak that end with memory, and one byte further
    ∷ (24, 0, 3, 16, 0)
    ∷ (24, 1, 3, 16, 2)
    ∷ (24, 16, 1, 16, 0)
    ∷ (24, 17, 1, 16, 2)
    ∷ (24, 0, 3, 17, 3)
    -- addresses that would wrap
    ∷ (24, 2 ^ 64 - 8, 1, 0, 2)
    ∷ (24, 2 ^ 64 - 1, 1440, 0, 2)
    ∷ (24, 0, 1, 2 ^ 64 - 1, 3)
    -- 1,440 words and the peak behind them
    ∷ (11528, 0, 1440, 11520, 0)
    ∷ (11527, 0, 1440, 11520, 3)
    ∷ (11519, 0, 1440, 11520, 2)
    ∷ []

unfoldable pub days_hold : List Worked → Bool
days_hold [] = true
days_hold (w ∷ ws) = same (day_words (day_of w.0 w.1)) w.2 && days_hold ws

unfoldable pub refusals_hold : List (ℕ × ℕ × ℕ × ℕ × ℕ) → Bool
refusals_hold [] = true
refusals_hold (r ∷ rs) = eqb (refusal_of (lent (replicate r.0 0)) r.1 r.2 r.3) r.4 && refusals_hold rs

-- every day and every refusal holds
pub days_hold_lem : days_hold days && refusals_hold asked ≡ true
unfolding days_hold refusals_hold days asked same words_of day_words comparison_number is_good good failed total largest first_place peak_of place_of mean_of mean_bits by_sign compared raw_of found_in day_of refusal_of refusals or_refused number_of refusal_number inside signed to_bits round
days_hold_lem = refl

-- #114: "writes `peak`, `place`, `failed`, `sum`, `mean` (its 64 bits) and `filed` (below, at, above), each a tab-parted line in that order,
-- numbers in decimal, a dash for what is missing; or `refused` and the number".
use Prim.Native.String.{String}
use Rattle.std.specs.Prelude.{ℕ, List, ◌++◌, Option, None, Some, Result, Ok, Err}
use Rattle.peaks.specs.declared.Comparison.{Comparison}
use Rattle.peaks.specs.declared.Comparison.TheVariants.{Below as below, At as at, Above as above, NotComparable as not_comparable}
use Rattle.peaks.specs.declared.Day.{Day}
use Rattle.peaks.specs.declared.Refusal.{Refusal}
use Rattle.peaks.specs.declared.raw.Raw.{Raw}
use Rattle.peaks.specs.Types.{refusal_number}
use Rattle.peaks.specs.Mean.{mean_bits}
use Rattle.report_lines.specs.Lines.{line, number_line}
use Rattle.text.specs.Bytes.{bytes}

-- a filed peak that cannot be compared is not below, at or above
unfoldable pub filed_text : Comparison → String
filed_text below = "below"
filed_text at = "at"
filed_text above = "above"
filed_text not_comparable = "-"

unfoldable pub filed_line : Comparison → List ℕ
filed_line c = line (bytes "filed") (bytes (filed_text c))

unfoldable pub peak_lines : Raw → List ℕ
peak_lines raw = number_line "peak" raw.peak ++ number_line "place" raw.place

unfoldable pub total_lines : Day → List ℕ
total_lines d = number_line "failed" d.failed ++ number_line "sum" d.sum

unfoldable pub found_lines : Day → Raw → List ℕ
found_lines d raw = peak_lines raw ++ total_lines d ++ number_line "mean" (mean_bits raw.mean) ++ filed_line raw.filed

unfoldable pub missing : String → List ℕ
missing name = line (bytes name) (bytes "-")

unfoldable pub missing_lines : Day → List ℕ
missing_lines d = (missing "peak" ++ missing "place") ++ total_lines d ++ (missing "mean" ++ missing "filed")

unfoldable pub lines_of : Day → Option Raw → List ℕ
lines_of d None = missing_lines d
lines_of d (Some raw) = found_lines d raw

unfoldable pub day_lines : Day → List ℕ
day_lines d = lines_of d d.found

unfoldable pub answer_lines : Result Day Refusal → List ℕ
answer_lines (Err r) = number_line "refused" (refusal_number r)
answer_lines (Ok d) = day_lines d

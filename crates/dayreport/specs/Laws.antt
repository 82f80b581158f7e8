-- Laws of y86peaks: a written first line is read back, an image that is let in is not refused, and what is handed over fits.
-- Assumes nothing.
use Rattle.std.specs.Prelude.{ℕ, ◌+◌, ◌^◌, ◌≤◌, ◌<◌, false, ◌≡◌}
use Rattle.std.proofs.Common.{arith, ap}
use mathlib.Core.List.{List, [], ◌∷◌, ◌++◌, append_assoc}
use Rattle.std.proofs.Math.Path.{refl}
use Rattle.std.proofs.Math.ListN.{length, length-append}
use Rattle.peaks.specs.declared.Comparison.{Comparison}
use Rattle.peaks.specs.declared.Comparison.TheVariants.{Below as below, At as at, Above as above, NotComparable as not_comparable}
use Rattle.peaks.specs.declared.Raw.{Raw}
use Rattle.peaks.specs.declared.Day.{Day}
use Rattle.peaks.specs.Mean.{mean_bits}
use Rattle.report_lines.specs.Lines.{line, number_line, number_length}
use Rattle.report.specs.Report.{image_refused, image_run}
use Rattle.report.specs.Laws.{refused_by_size}
use Rattle.std.specs.Prelude.{Some as number, Some as asks}
use Rattle.text.specs.Bytes.{bytes}
use Rattle.text.specs.Decimal.{decimal, is_digit}
use Rattle.text.specs.Field.{field_ended}
use Rattle.text.specs.Put.{written_within}
use Rattle.text.specs.ReadBack.{read_back}
use Rattle.dayreport.specs.Line.{third_of, second_of, first_of, first_line}
use Rattle.dayreport.specs.Lines.{filed_text, filed_line, peak_lines, total_lines, found_lines, missing, missing_lines}
use Rattle.dayreport.specs.Program.{written_for, answered_input}

-- THE RUN INSIDE: what is let in is run, and not refused
pub never_refused : (image : List ℕ) → image_refused (length image) ≡ false → (image_run image).number ≡ 0
never_refused image h = rw (refused_by_size image, h)

-- THE BUFFER: the bytes handed over stand in it
pub handed_over : (input out out' input' : List ℕ) (n : ℕ) → ◌≡◌ {A = ℕ × List ℕ × List ℕ} (n, out', input') (answered_input input out) → n ≤ length out'
unfolding answered_input
handed_over input out out' input' n e = written_within (written_for input) out out' n (ap (λ (x : ℕ × List ℕ × List ℕ). (x.0, x.1)) e)

-- no refusal and no day is longer than 144 bytes
pub refusal_length : (n : ℕ) → n < 2 ^ 64 → length (number_line "refused" n) ≤ 144
unfolding bytes
refusal_length n h = omega (arith, number_length (bytes "refused") n h)

totals_length : (d : Day) → d.failed < 2 ^ 64 → d.sum < 2 ^ 64 → length (total_lines d) ≤ 53
unfolding total_lines bytes
totals_length d h i = simp length-append (omega (arith, number_length (bytes "failed") d.failed h, number_length (bytes "sum") d.sum i))

filed_length : (c : Comparison) → length (filed_line c) ≤ 12
unfolding filed_line filed_text line bytes
filed_length below = omega arith
filed_length at = omega arith
filed_length above = omega arith
filed_length not_comparable = omega arith

pub missing_length : (d : Day) → d.failed < 2 ^ 64 → d.sum < 2 ^ 64 → length (missing_lines d) ≤ 144
unfolding missing_lines missing line bytes
missing_length d h i = simp length-append (omega (arith, totals_length d h i))

pub found_length : (d : Day) (raw : Raw) → d.failed < 2 ^ 64 → d.sum < 2 ^ 64 → raw.peak < 2 ^ 64 → raw.place < 2 ^ 64 → mean_bits raw.mean < 2 ^ 64
    → length (found_lines d raw) ≤ 144
unfolding found_lines peak_lines bytes
found_length d raw h i j k l =
    simp length-append
    (omega (
      arith,
      number_length (bytes "peak") raw.peak j,
      number_length (bytes "place") raw.place k,
      totals_length d h i,
      number_length (bytes "mean") (mean_bits raw.mean) l,
      filed_length raw.filed,
    ))

-- READ BACK
read_at : (t front : List ℕ) (n end : ℕ) (rest : List ℕ) (k : ℕ) → n < 2 ^ 64 → is_digit end ≡ false → t ≡ front ++ (decimal n ++ end ∷ rest) → k ≡ length front
    → field_ended t k end ≡ number (n, k + length (decimal n) + 1)
read_at t front n end rest k h d e f = rw (e, f) (read_back front n end rest h d)

-- three decimal numbers, a tab behind each of the first two and a line feed behind the last, are the first line, and the rest is the image
module _ (table size filed : ℕ) (image : List ℕ) (p : table < 2 ^ 64) (q : size < 2 ^ 64) (r : filed < 2 ^ 64) where
  pub line_read : first_line (decimal table ++ 9 ∷ (decimal size ++ 9 ∷ (decimal filed ++ 10 ∷ image)))
      ≡ asks (record { table = table; length = size; filed = filed; image = 0 + length (decimal table) + 1 + length (decimal size) + 1 + length (decimal filed) + 1 })
  unfolding first_line first_of second_of third_of
  line_read =
      let t = decimal table ++ 9 ∷ (decimal size ++ 9 ∷ (decimal filed ++ 10 ∷ image)) in
      let a = 0 + length (decimal table) + 1 in
      let b = a + length (decimal size) + 1 in
      let one = decimal table ++ 9 ∷ [] in
      let two = one ++ (decimal size ++ 9 ∷ []) in
      let x : field_ended t 0 9 ≡ number (table, a) = read_at t [] table 9 (decimal size ++ 9 ∷ (decimal filed ++ 10 ∷ image)) 0 p refl refl refl in
      let y : field_ended t a 9 ≡ number (size, b) =
      read_at t one size 9 (decimal filed ++ 10 ∷ image) a q refl (simp append_assoc) (simp length-append (omega arith)) in
      let z : field_ended t b 10 ≡ number (filed, b + length (decimal filed) + 1) =
      read_at t two filed 10 image b r refl (simp append_assoc) (simp length-append (omega arith)) in
      rw (x, y, z)

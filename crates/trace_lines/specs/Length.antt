-- No line of a trace is longer than 88 bytes. Assumes nothing.
use Rattle.std.specs.Prelude.{ℕ, ◌^◌, ◌≤◌, ◌<◌, Bool, true, false, cond, length, ltb}
use Rattle.std.proofs.Common.{arith, length-append}
use Rattle.text.specs.Bytes.{bytes}
use Rattle.text.specs.Decimal.{word_length}
use Rattle.report_lines.specs.Lines.{number_length}
use Rattle.register_lines.specs.Registers.{register_name, name_length}
use Rattle.trace.specs.Line.{target_text, trace_line}

target_length : (q : ℕ) → length (target_text q) ≤ 3
unfolding target_text bytes
target_length q = go (ltb q 15)
  where
    go : (t : Bool) → length (cond t (bytes (register_name q)) (bytes "-")) ≤ 3
    go true = name_length q
    go false = omega arith

pub line_length : (k a y q v : ℕ) → k < 2 ^ 64 → a < 2 ^ 64 → y < 2 ^ 64 → v < 2 ^ 64 → length (trace_line k a y q v) ≤ 88
unfolding trace_line bytes
line_length k a y q v f g h i =
    simp length-append
    (omega (arith, word_length k f, word_length a g, word_length y h, target_length q, number_length (target_text q) v i))

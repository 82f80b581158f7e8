-- #114: "table address, length and peak address as one tab-parted decimal line before the image". Each is below 2^64, without a sign and
-- without leading zeros; a line feed ends the line.
use Rattle.std.specs.Prelude.{ℕ, List, Option}
use Rattle.std.specs.Prelude.{None as no_number, Some as number}
use Rattle.std.specs.Prelude.{None as bad_line, Some as asks}
use Rattle.text.specs.Field.{Field, field_ended}
use Rattle.dayreport.specs.declared.line.Request.{Request}

-- a request, or a bad first line
abbrev pub FirstLine : Type 0
FirstLine = Option Request

-- a tab is 9, a line feed 10
unfoldable pub third_of : (table length : ℕ) → Field → FirstLine
third_of table length no_number = bad_line
third_of table length (number (filed, k)) = asks (record { table = table; length = length; filed = filed; image = k })

unfoldable pub second_of : List ℕ → ℕ → Field → FirstLine
second_of input table no_number = bad_line
second_of input table (number (length, k)) = third_of table length (field_ended input k 10)

unfoldable pub first_of : List ℕ → Field → FirstLine
first_of input no_number = bad_line
first_of input (number (table, k)) = second_of input table (field_ended input k 9)

unfoldable pub first_line : List ℕ → FirstLine
first_line input = first_of input (field_ended input 0 9)

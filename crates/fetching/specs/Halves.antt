-- The halves of the register byte, by what it is.
use Rattle.std.specs.Prelude.{ℕ, ◌+◌, ◌*◌, ◌/◌, ◌%◌}
use Rattle.machine.specs.Table.{RegisterByte, no_byte, both_named, only_b, only_a}

-- the byte with F in place of its filler, and F:F where there is none
unfoldable pub filled : RegisterByte → ℕ → ℕ
filled no_byte x = 255
filled both_named x = x
filled only_b x = 240 + x % 16
filled only_a x = x / 16 * 16 + 15

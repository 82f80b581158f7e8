-- Decimal fields, read from a place of a text on: a number as `decimal` writes it, below 2^64.
use Rattle.std.specs.Prelude.{ℕ, ◌+◌, ◌-◌, ◌*◌, ◌^◌, Bool, cond, not, ◌&&◌, ◌||◌, List, [], ◌∷◌, ltb, eqb, length, get_or, drop, Option}
use Rattle.std.specs.Prelude.{None as no_number, Some as number}
use Rattle.text.specs.Decimal.{is_digit}

-- a number and the place behind it, or none
abbrev pub Field : Type 0
Field = Option (ℕ × ℕ)

-- a digit stands there, and no zero with a digit behind it; past the end of a text get_or gives 0, which is no digit
unfoldable pub starts_number : List ℕ → ℕ → Bool
starts_number t at = is_digit (get_or t at 0) && (not (eqb (get_or t at 0) 48) || not (is_digit (get_or t (at + 1) 0)))

-- the number that the digits say which a text begins with, read behind those of v; k is the place of the text's first byte
unfoldable pub read_on : ℕ → ℕ → List ℕ → Field
read_on v k [] = number (v, k)
read_on v k (b ∷ t) =
    let longer = read_on (10 * v + (b - 48)) (k + 1) t in
    cond (is_digit b) (cond (ltb (10 * v + (b - 48)) (2 ^ 64)) longer no_number) (number (v, k))

-- a field: its number and the place behind it
unfoldable pub field_at : List ℕ → ℕ → Field
field_at t at = cond (starts_number t at) (read_on 0 at (drop at t)) no_number

-- with the byte that ends it, and the place behind that
unfoldable pub ended_by : List ℕ → ℕ → Field → Field
ended_by t end no_number = no_number
ended_by t end (number (v, k)) = cond (ltb k (length t) && eqb (get_or t k 0) end) (number (v, k + 1)) no_number

unfoldable pub field_ended : List ℕ → (at end : ℕ) → Field
field_ended t at end = ended_by t end (field_at t at)

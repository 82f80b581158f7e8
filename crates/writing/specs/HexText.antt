-- "Hex is lower case, addresses without leading zeros" (02, #104).
use Rattle.std.specs.Prelude.{ℕ, zero, suc, ◌+◌, ◌/◌, ◌%◌, cond, List, [], ◌∷◌, ◌++◌, ltb}
use Rattle.text.specs.Parts.{Text}

-- the byte of a digit: `0` is 48 and `a` 97
unfoldable pub hex_digit : ℕ → ℕ
hex_digit d = cond (ltb d 10) (48 + d) (87 + d)

-- below 16 one digit, else the last digit behind those of the sixteenth; so many sixteenths are taken at most
unfoldable pub hex_digits : (sixteenths n : ℕ) → Text
hex_digits zero n = hex_digit (n % 16) ∷ []
hex_digits (suc k) n = cond (ltb n 16) (hex_digit (n % 16) ∷ []) (hex_digits k (n / 16) ++ hex_digit (n % 16) ∷ [])

-- an address, below 2^64: at most sixteen digits, 0 being `0`
unfoldable pub hex_text : ℕ → Text
hex_text n = hex_digits 15 n

-- two digits for each byte
unfoldable pub hex_pairs : List ℕ → Text
hex_pairs [] = []
hex_pairs (x ∷ xs) = hex_digit (x / 16) ∷ hex_digit (x % 16) ∷ hex_pairs xs

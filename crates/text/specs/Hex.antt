-- Hex digits by their ASCII numbers. "Digits may be of either case" (#103).
use Rattle.std.specs.Prelude.{ℕ, ◌+◌, ◌-◌, ◌*◌, Bool, true, cond, ◌&&◌, ◌||◌, List, [], ◌∷◌, leb}

abbrev between : (low high c : ℕ) → Bool
between low high c = leb low c && leb c high

-- 0 to 9, A to F, a to f
unfoldable pub is_hex : ℕ → Bool
is_hex c = between 48 57 c || (between 65 70 c || between 97 102 c)

-- a digit's value; 0 for a byte that is no digit
unfoldable pub hex_value : ℕ → ℕ
hex_value c = cond (between 48 57 c) (c - 48) (cond (between 65 70 c) (c - 55) (cond (between 97 102 c) (c - 87) 0))

unfoldable pub all_hex : List ℕ → Bool
all_hex [] = true
all_hex (c ∷ s) = is_hex c && all_hex s

-- the number that begins with n and goes on with these digits
unfoldable pub hex_from : ℕ → List ℕ → ℕ
hex_from n [] = n
hex_from n (c ∷ s) = hex_from (16 * n + hex_value c) s

-- the number of these digits, the highest first
unfoldable pub hex_number : List ℕ → ℕ
hex_number s = hex_from 0 s

-- the bytes of these digits, "two digits each"; an odd one at the end is left out
unfoldable pub hex_bytes : List ℕ → List ℕ
hex_bytes [] = []
hex_bytes (h ∷ []) = []
hex_bytes (h ∷ l ∷ s) = (16 * hex_value h + hex_value l) ∷ hex_bytes s

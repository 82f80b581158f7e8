-- Words: 64 bits, "8 bytes, least first", with sums that wrap.
use Rattle.std.specs.Prelude.{ℕ, zero, suc, ◌+◌, ◌-◌, ◌*◌, ◌/◌, ◌%◌, ◌^◌, Bool, ◌||◌, List, get_or, set, ℤ, pos, negsuc}
use Rattle.std.specs.Int.Signed.{lt_z}
use Rattle.std.specs.Int.{Width, w64}
use mir.Val.{hbits, to_z}

-- "Address and data sums wrap at 2^64."
unfoldable pub sum : ℕ → ℕ → ℕ
sum b a = (b + a) % 2 ^ 64

-- b minus a, wrapped as well
unfoldable pub difference : ℕ → ℕ → ℕ
difference b a = (b + 2 ^ 64 - a) % 2 ^ 64

-- the number in the k bytes of m from a on, least first
unfoldable pub number : ℕ → List ℕ → ℕ → ℕ
number zero m a = 0
number (suc k) m a = get_or m a 0 + 256 * number k m (a + 1)

-- m with the k lowest bytes of v from a on, least first
unfoldable pub placed : ℕ → List ℕ → ℕ → ℕ → List ℕ
placed zero m a v = m
placed (suc k) m a v = placed k (set m a (v % 256)) (a + 1) (v / 256)

-- a word read as signed: from 2^63 on it stands for itself less 2^64
unfoldable pub signed : ℕ → ℤ
signed x = to_z w64 x

-- "lies outside -2^63 to 2^63-1", over the width: negsuc n is -(n + 1)
unfoldable pub outside : Width → ℤ → Bool
outside w z = lt_z z (negsuc (2 ^ hbits w - 1)) || lt_z (pos (2 ^ hbits w - 1)) z

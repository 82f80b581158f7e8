-- Hex put piece by piece: one law for each way out of a function. Assumes nothing.
use mathlib.Core.Path.{◌≡◌, refl, ap}
use mathlib.Core.List.{List, [], ◌∷◌, ◌++◌}
use Prim.Native.Nat.{ℕ, zero, suc, ◌+◌, ◌-◌, ◌/◌, ◌%◌, ◌≤◌, ◌<◌}
use native.Mathlib.Omega.{arith}
use native.Mathlib.Numerals.{add-one}
use lib.ListN.{length, take, get_or}
use lib.Seq.{take-suc}
use borrow.Author.Tests.{lt-ltb, le-ltb}
use Rattle.text.specs.declared.putting.Writer.{Writer}
use Rattle.text.specs.Put.{Put, put_both}
use Rattle.writing.specs.HexText.{hex_digit, hex_digits, hex_pairs}

pub last_hex : (k n : ℕ) → k ≡ 0 → hex_digits k n ≡ hex_digit (n % 16) ∷ []
unfolding hex_digits
last_hex zero n e = refl
last_hex (suc k) n e = absurd (omega arith)

pub one_hex : (k n : ℕ) → n < 16 → hex_digits k n ≡ hex_digit (n % 16) ∷ []
unfolding hex_digits
one_hex zero n h = refl
one_hex (suc k) n h = rw (lt-ltb n 16 h)

pub more_hex : (k n : ℕ) → (k ≡ 0 → ⊥) → 16 ≤ n → hex_digits k n ≡ hex_digits (k - 1) (n / 16) ++ hex_digit (n % 16) ∷ []
unfolding hex_digits
more_hex zero n z h = absurd (z refl)
more_hex (suc k) n z h =
    let e : suc k - 1 ≡ k = omega arith in
    rw (le-ltb n 16 h, e)

pairs_joined : (s t : List ℕ) → hex_pairs (s ++ t) ≡ hex_pairs s ++ hex_pairs t
unfolding hex_pairs
pairs_joined [] t = refl
pairs_joined (x ∷ s) t = ap (λ (l : List ℕ). hex_digit (x / 16) ∷ hex_digit (x % 16) ∷ l) (pairs_joined s t)

pub one_pair_more : (b : List ℕ) (k : ℕ) {w x y z : Writer} → k < length b → Put (hex_pairs (take k b)) w x
    → Put (hex_digit (get_or b k 0 / 16) ∷ []) x y → Put (hex_digit (get_or b k 0 % 16) ∷ []) y z → Put (hex_pairs (take (k + 1) b)) w z
unfolding hex_pairs
one_pair_more b k h x y z = rw (add-one, take-suc b k 0 h, pairs_joined (take k b) (get_or b k 0 ∷ [])) (put_both x (put_both y z))

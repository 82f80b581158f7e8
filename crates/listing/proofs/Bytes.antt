-- The listing's bytes laid into memory, pair by pair of digits. Assumes nothing.
use mathlib.Core.Path.{◌≡◌, refl, ap, sym, ◌∙◌}
use mathlib.Core.List.{List, [], ◌∷◌, ◌++◌}
use Prim.Native.Nat.{ℕ, suc, ◌+◌, ◌*◌, ◌/◌, ◌≤◌, ◌<◌}
use native.Mathlib.Omega.{arith}
use lib.ListN.{length, get_or, set, length-set}
use lib.Seq.{sets}
use Rattle.text.specs.Hex.{hex_value, hex_bytes}

-- k bytes are laid, and these digits are left
pub record Puts (m₀ : List ℕ) (at : ℕ) (digits m : List ℕ) (k : ℕ) (left : List ℕ) : Type 0 where
  pub rest : sets m₀ at (hex_bytes digits) ≡ sets m (at + k) (hex_bytes left)
  pub long : length m ≡ length m₀
  pub room : at + k + length left / 2 ≤ length m₀

-- fewer than two digits make no byte
too_few : (l : List ℕ) → length l < 2 → hex_bytes l ≡ []
unfolding hex_bytes
too_few [] h = refl
too_few (x ∷ []) h = refl
too_few (x ∷ y ∷ l) h = absurd (omega arith)

module _ (m₀ : List ℕ) (at : ℕ) (digits m : List ℕ) (k : ℕ) (left : List ℕ) (h : Puts m₀ at digits m k left) where
  pub puts_more : (pair left' : List ℕ) (b : ℕ) → left ≡ pair ++ left' → length pair ≡ 2 → b ≡ 16 * hex_value (get_or pair 0 0) + hex_value (get_or pair 1 0)
      → Puts m₀ at digits (set m (at + k) b) (k + 1) left'
  unfolding hex_bytes
  puts_more [] left' b e l q = absurd (omega arith)
  puts_more (x ∷ []) left' b e l q = absurd (omega arith)
  puts_more (x ∷ y ∷ z ∷ pair) left' b e l q = absurd (omega arith)
  puts_more (x ∷ y ∷ []) left' b e l q =
      let next : suc (at + k) ≡ at + (k + 1) = omega arith in
      record {
        rest =
            h.rest
            ∙ (ap (λ (d : List ℕ). sets m (at + k) (hex_bytes d)) e
            ∙ (ap (λ (v : ℕ). sets (set m (at + k) v) (suc (at + k)) (hex_bytes left')) (sym q)
            ∙ ap (λ (n : ℕ). sets (set m (at + k) b) n (hex_bytes left')) next));
        long = length-set m (at + k) b ∙ h.long;
        room = omega (arith, h.room, ap length e);
      }

  pub puts_all : length left < 2 → m ≡ sets m₀ at (hex_bytes digits)
  puts_all q = sym (h.rest ∙ ap (sets m (at + k)) (too_few left q))

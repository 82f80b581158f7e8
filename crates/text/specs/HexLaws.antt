-- Laws of hex digits. Assumes nothing.
use Rattle.std.specs.Prelude.{◌≡◌, refl, Bool, true, false, ◌&&◌, ◌||◌, List, [], ◌∷◌, ℕ, ◌/◌, eqb, length}
use Rattle.std.proofs.Common.{arith, eqb-true}
use Rattle.text.specs.Hex.{is_hex, all_hex, hex_bytes}
use Rattle.text.specs.Parts.{has}

-- a byte for each two digits
pub hex_bytes_length : (s : List ℕ) → length (hex_bytes s) ≡ length s / 2
unfolding hex_bytes
hex_bytes_length [] = refl
hex_bytes_length (h ∷ []) = refl
hex_bytes_length (h ∷ l ∷ s) = omega (arith, hex_bytes_length s)

both : (a b : Bool) → (a && b) ≡ true → (a ≡ true) × (b ≡ true)
both true b h = (refl, h)
both false b h = absurd (cc)

-- hex digits hold no byte that is none of them
pub hex_without : (c : ℕ) → is_hex c ≡ false → (s : List ℕ) → all_hex s ≡ true → has c s ≡ false
unfolding has all_hex
hex_without c h [] e = refl
hex_without c h (x ∷ s) e =
    let p = both (is_hex x) (all_hex s) e in
    go (eqb x c) refl p.0 (hex_without c h s p.1)
  where
    go : (b : Bool) → eqb x c ≡ b → is_hex x ≡ true → has c s ≡ false → (eqb x c || has c s) ≡ false
    go true q d ih =
        let same = eqb-true x c q in
        absurd (cc)
    go false q d ih = rw q ih

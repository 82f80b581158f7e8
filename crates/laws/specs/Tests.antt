-- Two tests joined by "or".
use Rattle.std.specs.Prelude.{◌≡◌, refl, Bool, true, false, ◌||◌}

pub neither : (a b : Bool) → a || b ≡ false → (a ≡ false) × (b ≡ false)
neither true b h = (h, cc)
neither false b h = (refl, h)

pub or_true : (t : Bool) → t || true ≡ true
or_true true = refl
or_true false = refl

pub or_false : (t : Bool) → t || false ≡ t
or_false true = refl
or_false false = refl

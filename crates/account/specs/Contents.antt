-- Lent bytes.
use Prim.Native.Nat.{ℕ, ◌<◌}
use Rattle.std.specs.Prelude.{get_or}
use mathlib.Core.List.{List}

-- "Memory is N lent bytes"
abbrev pub Bytes : List ℕ → Type 0
Bytes b = (x : ℕ) → get_or b x 0 < 256

-- A list that begins with another.
use Rattle.std.specs.Prelude.{ℕ, List, ◌++◌, ◌≡◌}

pub record Begins (l a : List ℕ) : Type 0 where
  pub rest : List ℕ
  pub whole : l ≡ a ++ rest

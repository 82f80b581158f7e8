-- Texts are lists of bytes. A text parted by a byte c: a line feed, 10, ends a line; a tab, 9, parts two fields.
use Rattle.std.specs.Prelude.{ℕ, Bool, false, cond, ◌||◌, List, [], ◌∷◌, eqb}

abbrev pub Text : Type 0
Text = List ℕ

unfoldable pub has : ℕ → Text → Bool
has c [] = false
has c (x ∷ t) = eqb x c || has c t

-- what stands before the first c; all where there is none
unfoldable pub before : ℕ → Text → Text
before c [] = []
before c (x ∷ t) = cond (eqb x c) [] (x ∷ before c t)

-- what stands behind the first c; nothing where there is none
unfoldable pub behind : ℕ → Text → Text
behind c [] = []
behind c (x ∷ t) = cond (eqb x c) t (behind c t)

abbrev pub line_feed : ℕ
line_feed = 10

abbrev pub tab : ℕ
tab = 9

-- x put before the first of the lines
abbrev pub longer : ℕ → List Text → List Text
longer x [] = (x ∷ []) ∷ []
longer x (l ∷ ls) = (x ∷ l) ∷ ls

-- the lines of a text, each with its line feed; the last may lack it
unfoldable pub lines : Text → List Text
lines [] = []
lines (x ∷ t) = cond (eqb x line_feed) ((x ∷ []) ∷ lines t) (longer x (lines t))

-- A text is a list of bytes.
use Rattle.std.specs.Prelude.{ℕ, zero, suc, ◌<◌, ◌≤◌, ◌≡◌, length, map, max, get_or}
use Rattle.std.specs.Borrow.{Bor}
use Rattle.std.proofs.Common.{ap, sym, ◌∙◌, arith}
use Rattle.std.proofs.lemmas.List.{length-map, get_or-map}
use Prim.Native.Char.{code}
use Prim.Native.String.{String, [], ◌∷◌}
use mathlib.Core.List as list

-- the bytes of a quoted text of ASCII characters
unfoldable pub bytes : String → list.List ℕ
bytes [] = list.[]
bytes (c ∷ s) = list.◌∷◌ (code c) (bytes s)

-- what a table of texts holds, read at a place that it has
abbrev pub texts : list.List (Bor (list.List ℕ)) → list.List (list.List ℕ)
texts t = map (λ s. s.now) t

pub texts_length : (names : list.List String) (table : list.List (Bor (list.List ℕ))) → texts table ≡ map bytes names → length table ≡ length names
texts_length names table e = sym (length-map table (λ s. s.now)) ∙ (ap length e ∙ length-map names bytes)

pub text_at : (names : list.List String) (table : list.List (Bor (list.List ℕ))) (k : ℕ) (none : Bor (list.List ℕ)) → texts table ≡ map bytes names
    → k < length names → (get_or table k none).now ≡ bytes (get_or names k "")
text_at names table k none e h =
    sym (get_or-map (λ s. s.now) table k none list.[] (omega (arith, texts_length names table e)))
    ∙ (ap (λ (t : list.List (list.List ℕ)). get_or t k list.[]) e ∙ get_or-map bytes names k "" list.[] h)

-- and a table of such tables
pub row_at : (rows : list.List (list.List String)) (table : list.List (Bor (list.List (Bor (list.List ℕ))))) (k : ℕ) (none : Bor (list.List (Bor (list.List ℕ))))
    → map (λ r. texts r.now) table ≡ map (map bytes) rows → k < length rows → texts (get_or table k none).now ≡ map bytes (get_or rows k list.[])
row_at rows table k none e h =
    let l : length table ≡ length rows = sym (length-map table (λ r. texts r.now)) ∙ (ap length e ∙ length-map rows (map bytes)) in
    sym (get_or-map (λ r. texts r.now) table k none list.[] (omega arith))
    ∙ (ap (λ (t : list.List (list.List (list.List ℕ))). get_or t k list.[]) e ∙ get_or-map (map bytes) rows k list.[] list.[] h)

-- how long the texts of a table are at most
unfoldable pub longest : list.List String → ℕ
longest list.[] = 0
longest (list.◌∷◌ s t) = max (length (bytes s)) (longest t)

pub at_most_longest : (names : list.List String) (k : ℕ) → length (bytes (get_or names k "")) ≤ longest names
unfolding longest bytes
at_most_longest list.[] k = omega arith
at_most_longest (list.◌∷◌ s t) zero = omega arith
at_most_longest (list.◌∷◌ s t) (suc k) = omega (arith, at_most_longest t k)

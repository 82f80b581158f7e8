-- Texts and instructions written at the edge (#104): what is written, or the length that it needs.
use Rattle.std.specs.Prelude.{ℕ, Bool, cond, not, ◌||◌, List, [], ◌∷◌, ◌++◌, ltb, eqb, length, drop}
use Rattle.machine.specs.Memory.{lent}
use Rattle.machine.specs.Runs.{size_refused, lowest}
use Rattle.block.specs.Block.{with_words}
use Rattle.encoding.specs.declared.Fields.{Fields}
use Rattle.encoding.specs.Encode.{encode_refused, form}
use Rattle.writing.specs.Text.{listing_of}

-- the answer, and what the two lent slices hold
pub record Written : Type 0 where
  pub answer : ℕ
  pub bytes : List ℕ
  pub length : List ℕ

abbrev pub written : ℕ → List ℕ → List ℕ → Written
written n b l = record { answer = n; bytes = b; length = l }

-- 8: "`length` takes the length needed", and the bytes stay; else they begin with what is written, "the rest stays", and `length` is its length
unfoldable pub fitted : List ℕ → (bytes len : List ℕ) → Written
fitted t b l =
    let told = with_words (length t ∷ []) l 0 in
    cond (ltb (length b) (length t)) (written 8 b told) (written 0 (t ++ drop (length t) b) told)

-- 4: "length not 8 bytes"; 5: "a named register over 14 or a function not in the table"
unfoldable pub encode_refusal : ℕ → Fields → ℕ
encode_refusal l i = lowest ((4, not (eqb l 8)) ∷ (5, encode_refused i) ∷ [])

-- "bytes begin with the instruction, the rest stays; `length` is its"
unfoldable pub encoded : (bytes len : List ℕ) → Fields → Written
encoded b l i =
    let n = encode_refusal (length l) i in
    cond (eqb n 0) (fitted (form i) b l) (written n b l)

-- "7, start above end or end above N"
unfoldable pub range_refused : (size start end : ℕ) → Bool
range_refused size start end = ltb end start || ltb size end

-- 1 by the size of memory; 4: "length not 8 bytes"; 7
unfoldable pub list_refusal : (size len start end : ℕ) → ℕ
list_refusal size l start end = lowest ((1, size_refused size) ∷ (4, not (eqb l 8)) ∷ (7, range_refused size start end) ∷ [])

-- "text begins with the listing, the rest stays; `length` is the listing's"
unfoldable pub listing_written : (memory text len : List ℕ) → (start end : ℕ) → Written
listing_written m t l start end =
    let n = list_refusal (length m) (length l) start end in
    cond (eqb n 0) (fitted (listing_of (lent m) start end) t l) (written n t l)

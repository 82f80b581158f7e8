-- One law for each way out of a function. Assumes nothing.
use mathlib.Core.List.{List, [], ◌∷◌}
use Prim.Native.Nat.{ℕ, ◌+◌, ◌/◌, ◌%◌, ◌≤◌, ◌<◌}
use native.Mathlib.Numerals.{add-one}
use lib.ListN.{length, take, get_or}
use lib.Seq.{take-suc}
use Rattle.text.specs.declared.putting.Writer.{Writer}
use Rattle.text.specs.Decimal.{digit, decimal, decimal_more}
use Rattle.text.specs.Put.{Put, put_both}

-- one byte more of a text
pub one_more : (text : List ℕ) (k : ℕ) {a b c : Writer} → k < length text → Put (take k text) a b → Put (get_or text k 0 ∷ []) b c → Put (take (k + 1) text) a c
one_more text k h p q = rw (add-one, take-suc text k 0) (put_both p q)

-- a number of more digits than one
pub more_digits : {n : ℕ} {a b c : Writer} → 10 ≤ n → Put (decimal (n / 10)) a b → Put (digit (n % 10) ∷ []) b c → Put (decimal n) a c
more_digits {n} h p q = rw (decimal_more n h) (put_both p q)

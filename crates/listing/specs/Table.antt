-- Worked texts, a line each, in one table: what is read, and each kind at its boundaries. That every case holds is proved in proofs/Table.antt.
use Rattle.std.specs.Prelude.{ℕ, Bool, true, false, ◌&&◌, List, [], ◌∷◌, eqb, replicate}
use Prim.Native.String.{String}
use Rattle.text.specs.Bytes.{bytes}
use Rattle.listing.specs.Reading.{kind_number, Answer, right, wrong, refused, faulted, listed}

-- a text, read into memory whose bytes are all 7; the refusal, the line and the kind, each 0 where there is none; and memory afterwards
pub record Case : Type 0 where
  pub size : ℕ
  pub text : String
  pub number : ℕ
  pub line : ℕ
  pub kind : ℕ
  pub memory : List ℕ

abbrev lent : ℕ → List ℕ
lent size = replicate size 7

abbrev reads : (size : ℕ) → String → List ℕ → Case
reads n t m = record { size = n; text = t; number = 0; line = 0; kind = 0; memory = m }

abbrev finds : (size : ℕ) → String → (line kind : ℕ) → Case
finds n t l k = record { size = n; text = t; number = 0; line = l; kind = k; memory = lent n }

abbrev refuses : (size : ℕ) → String → (number : ℕ) → Case
refuses n t r = record { size = n; text = t; number = r; line = 0; kind = 0; memory = lent n }

unfoldable pub same : List ℕ → List ℕ → Bool
same [] [] = true
same [] (y ∷ ys) = false
same (x ∷ xs) [] = false
same (x ∷ xs) (y ∷ ys) = eqb x y && same xs ys

unfoldable pub answers : Answer → (number line kind : ℕ) → Bool
answers refused number line kind = eqb 1 number && (eqb 0 line && eqb 0 kind)
answers (right u) number line kind = eqb 0 number && (eqb 0 line && eqb 0 kind)
answers (wrong (faulted f)) number line kind = eqb 0 number && (eqb f.line line && eqb (kind_number f.kind) kind)

unfoldable pub holds : Case → Bool
holds c =
    let a = listed (bytes c.text) (lent c.size) in
    answers a.answer c.number c.line c.kind && same a.memory c.memory

unfoldable pub all_hold : List Case → Bool
all_hold [] = true
all_hold (c ∷ cs) = holds c && all_hold cs

unfoldable pub cases : List Case
cases =
    -- "Empty text is accepted, all zeros."
    reads 3 "" (0 ∷ 0 ∷ 0 ∷ [])
    -- digits of either case, leading zeros, sixteen digits, a remark, an empty one, one with tabs and a carriage return
    ∷ reads 3 "1\taB\n" (0 ∷ 0xab ∷ 0 ∷ [])
    ∷ reads 3 "0000000000000002\tFf\trrmovq\n" (0 ∷ 0 ∷ 0xff ∷ [])
    ∷ reads 2 "0\t1234\t\n" (0x12 ∷ 0x34 ∷ [])
    ∷ reads 2 "0\t12\ta\tb\r\n1\t34\n" (0x12 ∷ 0x34 ∷ [])
    -- sixteen bytes; lines next to each other; up to the end
    ∷ reads 17 "1\t000102030405060708090a0b0c0d0e0f\n" (0 ∷ 0 ∷ 1 ∷ 2 ∷ 3 ∷ 4 ∷ 5 ∷ 6 ∷ 7 ∷ 8 ∷ 9 ∷ 10 ∷ 11 ∷ 12 ∷ 13 ∷ 14 ∷ 15 ∷ [])
    ∷ reads 4 "0\t0102\n2\t0304\n" (1 ∷ 2 ∷ 3 ∷ 4 ∷ [])
    -- kind 1: a blank line, no line feed, a field missing, empty or not hex, a carriage return, an address of 17 digits
    ∷ finds 4 "\n" 1 1
    ∷ finds 4 "0\t12\n\n" 2 1
    ∷ finds 4 "0\t12" 1 1
    ∷ finds 4 "0\t12\n1\t34" 2 1
    ∷ finds 4 "0\n" 1 1
    ∷ finds 4 "0\t\n" 1 1
    ∷ finds 4 "\t12\n" 1 1
    ∷ finds 4 "0\t\t12\n" 1 1
    ∷ finds 4 "0 12\n" 1 1
    ∷ finds 4 "g\t12\n" 1 1
    ∷ finds 4 "0\t1G\n" 1 1
    ∷ finds 4 "/\t12\n" 1 1
    ∷ finds 4 ":\t12\n" 1 1
    ∷ finds 4 "@\t12\n" 1 1
    ∷ finds 4 "`\t12\n" 1 1
    ∷ finds 4 "0x1\t12\n" 1 1
    ∷ finds 4 "0\t12\r\n" 1 1
    ∷ finds 4 "00000000000000000\t12\n" 1 1
    -- kind 2: odd digits, 17 bytes
    ∷ finds 4 "0\t1\n" 1 2
    ∷ finds 4 "0\t123\tnop\n" 1 2
    ∷ finds 40 "0\t000102030405060708090a0b0c0d0e0f10\n" 1 2
    -- kind 3: the last byte given, the one before it
    ∷ finds 4 "0\t12\n0\t12\n" 2 3
    ∷ finds 4 "0\t1234\n1\t56\n" 2 3
    ∷ finds 4 "1\t12\n0\t12\n" 2 3
    -- kind 4: one byte behind memory, and the highest address, without wrapping
    ∷ finds 4 "3\t1234\n" 1 4
    ∷ finds 4 "4\t12\n" 1 4
    ∷ finds 4 "ffffffffffffffff\t1234\n" 1 4
    ∷ finds 4 "ffffffffffffffff\t12\n" 1 4
    -- "lowest winning": 1 before 2, 2 before 3, 3 before 4, no line feed before all
    ∷ finds 4 "x\t1\n" 1 1
    ∷ finds 4 "00000000000000000\t1\n" 1 1
    ∷ finds 4 "0\t12\n0\t1\n" 2 2
    ∷ finds 4 "3\t12\n2\t010203\n" 2 3
    ∷ finds 4 "3\t12\n2\t010" 2 1
    -- the first faulty line
    ∷ finds 4 "0\t12\n0\t12\n\n" 2 3
    -- refusal 1 before anything in the text
    ∷ refuses 0 "\n" 1
    ∷ []

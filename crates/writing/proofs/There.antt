-- What starts at an address and what is shown of it, by its bytes. Assumes nothing.
use Prim.Native.Nat.{ℕ, zero, suc, ◌+◌, ◌-◌, ◌/◌, ◌%◌, ◌<◌, ◌≤◌}
use mathlib.Core.Path.{◌≡◌, refl, ap, sym, ◌∙◌, subst}
use mathlib.Core.Bool.{Bool, true, false, cond, not, ◌&&◌, ◌||◌}
use mathlib.Core.List.{List, ◌++◌, append-nil}
use mathlib.Core.Logic.{⊎_elim}
use native.Mathlib.Nat.{eq-or-lt_of_le}
use native.Mathlib.Omega.{arith}
use lib.Dec.{leb, ltb, eqb}
use lib.ListN.{length, get_or, get_or-eq_default}
use borrow.Author.Tests.{eqb-true, eqb-false, lt-ltb, le-ltb, lt-leb, leb-true, leb-false, ltb-true, ltb-false}
use Rattle.machine.specs.declared.Instruction.{Instruction}
use Rattle.machine.specs.declared.Status.TheVariants.{Aok as aok}
use Rattle.machine.specs.Words.{number}
use Rattle.machine.specs.Memory.{Memory, lent, size, code_end, inside, load}
use Rattle.machine.specs.Table.{Row, RegisterByte, no_byte, both_named, only_b, only_a, table, row_of}
use Rattle.machine.specs.Fetch.{size_at, stopping, names_a, names_b, half, misnamed, checked, fetch}
use Rattle.laws.specs.Tests.{or_true}
use Rattle.published.specs.Fetching.{M₁, aok_at, fetch_is}
use Rattle.encoding.specs.Encode.{fields, encode_refused}
use Rattle.listing.specs.Grammar.{some}
use Rattle.writing.specs.Remark.{nothing, operands_of, operands, mnemonic, remark}
use Rattle.writing.specs.Text.{starts, starts_at, within_end, whole, noted}
use Rattle.writing.specs.There.{there_at}

-- BYTES AND SIZES, by what the code has at hand
pub byte_behind : (b : List ℕ) (k : ℕ) → length b ≤ k → 0 ≡ get_or b k 0
byte_behind b k h = sym (get_or-eq_default b 0 h)

pub size_is : (m : Memory) (a f n : ℕ) → f ≡ M₁ m a → n ≡ (row_of (f / 16)).size → n ≡ size_at m a
unfolding size_at
size_is m a f n g s = rw (s, g) refl

module _ (b : List ℕ) (a n : ℕ) where
  pub long_constant : (r : ℕ) → a + n ≤ length b → 8 < n → r ≡ load (lent b) (a + (n - 8)) → r ≡ cond (ltb 8 n) (number 8 b (a + (n - 8))) 0
  unfolding load inside
  long_constant r h k e =
      let there : ltb (a + (n - 8) + 7) (length b) ≡ true = lt-ltb (a + (n - 8) + 7) (length b) (omega arith) in
      rw (e, there, lt-ltb 8 n k) refl

  pub no_constant : n ≤ 8 → 0 ≡ cond (ltb 8 n) (number 8 b (a + (n - 8))) 0
  no_constant h = rw (le-ltb 8 n h) refl

-- WHAT STARTS: no check fails
starts_checked : (first function later named halts : Bool) (i : Instruction) → i.status ≡ aok
    → starts (checked first function later named halts i).status ≡ not (first || (function || (later || named)))
unfolding starts checked stopping
starts_checked true f l r h i e = refl
starts_checked false true l r h i e = refl
starts_checked false false true r h i e = refl
starts_checked false false false true h i e = refl
starts_checked false false false false true i e = refl
starts_checked false false false false false i e = rw e refl

-- 15 is the one register number over 14
last_register : (x : ℕ) → x < 16 → eqb x 15 ≡ ltb 14 x
last_register x h = go (eqb x 15) refl
  where
    go : (t : Bool) → eqb x 15 ≡ t → t ≡ ltb 14 x
    go true e = sym (lt-ltb 14 x (omega (arith, eqb-true x 15 e)))
    go false e = sym (le-ltb 14 x (omega (arith, eqb-false x 15 e)))

same_names : (y : RegisterByte) (a b : ℕ) → a < 16 → b < 16
    → misnamed y (half (names_a y) a) (half (names_b y) b) ≡ (names_a y && ltb 14 a) || (names_b y && ltb 14 b)
unfolding misnamed names_a names_b half
same_names no_byte a b h k = refl
same_names both_named a b h k = rw (last_register a h, last_register b k) refl
same_names only_b a b h k = last_register b k
same_names only_a a b h k = rw (last_register a h) refl

-- what is there, and would be taken by an encoder
module _ (m : Memory) (a : ℕ) (first : a < size m) (all : code_end m a ≡ size m) where
  passed : starts_at m a
      ≡ not (leb (row_of (M₁ m a / 16)).functions (M₁ m a % 16)
      || (ltb (size m) (a + size_at m a) || misnamed (row_of (M₁ m a / 16)).byte (there_at m a).ra (there_at m a).rb))
  unfolding starts_at size_at aok_at
  passed =
      ap (λ (i : Instruction). starts i.status) (fetch_is m a)
      ∙ (starts_checked _ _ _ _ _ (there_at m a) refl ∙ rw (all, lt-leb (size m) a first) refl)

  pub starts_is : (n f p : ℕ) (x : Bool) → n ≡ size_at m a → f ≡ M₁ m a → p ≡ M₁ m (a + 1) → p < 256
      → x ≡ encode_refused (fields (f / 16) (f % 16) (p / 16) (p % 16) 0) → leb n (size m - a) && not x ≡ starts_at m a
  unfolding encode_refused aok_at
  starts_is n f p x e g q k r = go (leb n (size m - a)) refl
    where
      row : Row
      row = row_of (M₁ m a / 16)

      go : (t : Bool) → leb n (size m - a) ≡ t → t && not x ≡ starts_at m a
      go true h =
          let there : ltb (size m) (a + size_at m a) ≡ false = le-ltb (size m) (a + size_at m a) (omega (arith, leb-true n (size m - a) h)) in
          rw (passed, there, same_names row.byte (M₁ m (a + 1) / 16) (M₁ m (a + 1) % 16) (omega arith) (omega arith), r, g, q) refl
      go false h =
          let few : ltb (size m) (a + size_at m a) ≡ true = lt-ltb (size m) (a + size_at m a) (omega (arith, leb-false n (size m - a) h)) in
          rw (passed, few, or_true (leb row.functions (M₁ m a % 16))) refl

-- what is computed of each number below n holds of any of them
abbrev Each : (P : ℕ → Type 0) → ℕ → Type 0
Each P zero = Unit {0}
Each P (suc n) = P n × Each P n

each : (P : ℕ → Type 0) (n : ℕ) → Each P n → (q : ℕ) → q < n → P q
each P zero x q h = absurd (omega arith)
each P (suc n) x q h = ⊎_elim (λ (e : q ≡ n). subst P (sym e) x.0) (λ (l : q < n). each P n x.1 q l) (eq-or-lt_of_le (omega arith))

-- WHAT IS SHOWN
-- a half that names no register
abbrev Unseen : ℕ → Type 0
Unseen code = (a b c : ℕ) → let y = (row_of code).byte in
    operands (get_or operands_of code nothing) (half (names_a y) a) (half (names_b y) b) c ≡ operands (get_or operands_of code nothing) a b c

unseen : (code : ℕ) → Unseen code
unfolding table row_of operands_of operands half names_a names_b
unseen code = go (ltb code 13) refl
  where
    known : (code : ℕ) → code < 13 → Unseen code
    known = each Unseen 13 (λ a b c. refl, (λ a b c. refl, (λ a b c. refl, (λ a b c. refl, (λ a b c. refl, (λ a b c. refl, (λ a b c. refl, (λ a b c. refl, (λ a b c. refl, (λ a b c. refl, (λ a b c. refl, (λ a b c. refl, (λ a b c. refl, tt)))))))))))))

    go : (t : Bool) → ltb code 13 ≡ t → Unseen code
    go true h = known code (ltb-true code 13 h)
    go false h = λ a b c. rw (get_or-eq_default operands_of nothing (ltb-false code 13 h)) refl

-- the remark of what is there, by its bytes
pub shown : (m : Memory) (a f p n c : ℕ) → f ≡ M₁ m a → p ≡ M₁ m (a + 1) → n ≡ (row_of (f / 16)).size
    → c ≡ cond (ltb 8 n) (number 8 m.bytes (a + (n - 8))) 0
    → mnemonic (f / 16) (f % 16) ++ operands (get_or operands_of (f / 16) nothing) (p / 16) (p % 16) c ≡ remark aok (there_at m a)
unfolding remark aok_at
shown m a f p n c g q s e =
    let code = M₁ m a / 16 in
    let constant : c ≡ (there_at m a).constant = rw (e, s, g) refl in
    rw (g, q, constant, unseen code (M₁ m (a + 1) / 16) (M₁ m (a + 1) % 16) (there_at m a).constant) refl

-- a halt, which is fetched as a nop
remark_checked : (first function later named halts : Bool) (i : Instruction) → i.status ≡ aok → (halts ≡ true → (i.code ≡ 0) × (function ≡ false → i.function ≡ 0))
    → starts (checked first function later named halts i).status ≡ true
    → remark (checked first function later named halts i).status (checked first function later named halts i) ≡ remark aok i
unfolding starts checked stopping remark operands_of operands
remark_checked true f l r h i e z s = cc
remark_checked false true l r h i e z s = cc
remark_checked false false true r h i e z s = cc
remark_checked false false false true h i e z s = cc
remark_checked false false false false true i e z s = rw ((z refl).0, (z refl).1 refl) (sym (append-nil (mnemonic 0 0)))
remark_checked false false false false false i e z s = rw e refl

-- a line that is an instruction shows the one that is fetched there
pub noted_there : (m : Memory) (a : ℕ) (w : Bool) → (w ≡ true → starts_at m a ≡ true) → noted w (there_at m a) ≡ noted w (fetch m a)
unfolding starts_at aok_at table row_of
noted_there m a false s = refl
noted_there m a true s =
    let code = M₁ m a / 16 in
    let halting : eqb code 0 ≡ true → (code ≡ 0) × (leb (row_of code).functions (M₁ m a % 16) ≡ false → M₁ m a % 16 ≡ 0) = λ h.
    let z : code ≡ 0 = eqb-true code 0 h in
    let one : (row_of code).functions ≡ 1 = ap (λ (c : ℕ). (row_of c).functions) z in
    (z, λ n. omega (arith, leb-false (row_of code).functions (M₁ m a % 16) n)) in
    ap some
    (sym
    (ap (λ (i : Instruction). remark i.status i) (fetch_is m a)
    ∙ remark_checked _ _ _ _ _ (there_at m a) refl halting (ap (λ (i : Instruction). starts i.status) (sym (fetch_is m a)) ∙ s refl)))

-- of which there is more to say where it is whole
pub whole_starts : (cut : Bool) (m : Memory) (a e : ℕ) (w : Bool) → w ≡ whole cut m a e → w ≡ true → starts_at m a ≡ true
unfolding whole
whole_starts cut m a e w h t = go cut (starts_at m a) (within_end m a e) (sym h ∙ t)
  where
    go : (c x y : Bool) → not c && (x && y) ≡ true → x ≡ true
    go true x y e = cc
    go false true y e = refl
    go false false y e = e

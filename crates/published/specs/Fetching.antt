-- The fetch row of the columns: what an instruction that is fetched with AOK is, by the bytes from the program address on.
use Rattle.std.specs.Prelude.{ℕ, zero, suc, min, ◌+◌, ◌-◌, ◌/◌, ◌%◌, ◌<◌, ◌≤◌, ◌≡◌, Bool, true, false, cond, ◌||◌, ltb, leb, eqb, length, take, drop}
use Rattle.std.proofs.Math.Path.{refl, ap}
use Rattle.std.proofs.Common.{sym, ◌∙◌, add-zero, add_assoc, lt_of_not-le, arith, length-take, length-drop, get_or-take, get_or-drop}
use Rattle.std.proofs.Math.Dec.{T, ltb→lt}
use borrow.Author.Tests.{leb-true, leb-false, ltb-true, ltb-false, lt-ltb, le-ltb, lt-leb, eq-eqb, ne_eqb, eqb-false}
use Rattle.std.proofs.Math.ListN.{get_or}
use Rattle.machine.specs.Types.{is_bad}
use Rattle.machine.specs.Words.{sum, number}
use Rattle.machine.specs.Memory.{Memory, size, seen_to, code_end}
use Rattle.machine.specs.Table.{Row, row_of, table, unknown_code}
use Rattle.machine.specs.Fetch.{size_at, own_bytes, stopping, checked, names_a, names_b, half, constant_in, parsed, fetch, misnamed}
use Rattle.published.specs.Names.{Window, no_window, within, Status, aok, hlt, Instruction, no_fault}
use Rattle.published.specs.Lengths.{length_rule, no_functions, two, parts, has_register_byte}

-- M₁[a], a byte, and M₈[a], the eight bytes from a on
abbrev pub M₁ : Memory → ℕ → ℕ
M₁ m a = get_or m.bytes a 0

abbrev pub M₈ : Memory → ℕ → ℕ
M₈ m a = number 8 m.bytes a

-- the constant of an instruction at a that is so long: its last eight bytes
abbrev constant_at : Memory → ℕ → ℕ → ℕ
constant_at m a n = cond (ltb 8 n) (M₈ m (a + (n - 8))) 0

-- the instruction at a with this code: icode:ifun ← M₁[PC], rA:rB ← M₁[PC+1], valC ← its last eight bytes, valP ← PC + its length
unfoldable pub aok_at : Memory → ℕ → ℕ → Instruction
aok_at m a code =
    let row = row_of code in
    record {
      address = a;
      status = aok;
      code = code;
      function = M₁ m a % 16;
      ra = half (names_a row.byte) (M₁ m (a + 1) / 16);
      rb = half (names_b row.byte) (M₁ m (a + 1) % 16);
      constant = constant_at m a row.size;
      next = sum a row.size;
      fault = no_fault;
    }

-- the bytes that an instruction may have are bytes of memory
pub code_end_within : (m : Memory) (a : ℕ) → code_end m a ≤ size m
unfolding seen_to code_end
code_end_within m a = go m.window
  where
    go : (w : Window) → seen_to w (size m) a ≤ size m
    go no_window = omega arith
    go (within (first, end)) = omega arith

-- its own bytes are those of memory
own : (m : Memory) (a n j : ℕ) → j < n → a + j < code_end m a → get_or (take n (drop a (take (code_end m a) m.bytes))) j 0 ≡ M₁ m (a + j)
own m a n j h l = rw (get_or-take, get_or-drop, get_or-take)

own_number : (k : ℕ) (m : Memory) (a n j : ℕ) → j + k ≤ n → a + j + k ≤ code_end m a
    → number k (take n (drop a (take (code_end m a) m.bytes))) j ≡ number k m.bytes (a + j)
unfolding number
own_number zero m a n j h l = refl
own_number (suc k) m a n j h l = rw (own m a n j (omega arith) (omega arith), own_number k m a n (j + 1) (omega arith) (omega arith), add_assoc)

pub half_same : (named : Bool) (x x' : ℕ) → (T named → x ≡ x') → half named x ≡ half named x'
unfolding half
half_same true x x' e = e tt
half_same false x x' e = refl

-- a half that names a register is one of a byte that is there
there_a : (a b : Bool) → T a → T (a || b)
there_a true b t = tt
there_a false b t = elim t [ ]

there_b : (a b : Bool) → T b → T (a || b)
there_b true b t = tt
there_b false b t = t

pub cond_same : (b : Bool) (x x' y : ℕ) → (T b → x ≡ x') → cond b x y ≡ cond b x' y
cond_same true x x' y e = e tt
cond_same false x x' y e = refl

alike : (b c : Bool) → (b ≡ true → c ≡ true) → (b ≡ false → c ≡ false) → c ≡ b
alike true c t f = t refl
alike false c t f = f refl

-- the own bytes are none, or fewer than the length, exactly when the bytes that it may have end before
module _ (m : Memory) (a n : ℕ) (some : 0 < n) where
  none_own : eqb (length (take n (drop a (take (code_end m a) m.bytes)))) 0 ≡ leb (code_end m a) a
  none_own =
      let k = min n (min (code_end m a) (size m) - a) in
      let within = code_end_within m a in
      simp (length-take, length-drop)
      (alike (leb (code_end m a) a) _ (λ e. eq-eqb k 0 (omega (arith, leb-true (code_end m a) a e)))
      (λ e. ne_eqb k 0 (omega (arith, leb-false (code_end m a) a e))))

  few_own : ltb (length (take n (drop a (take (code_end m a) m.bytes)))) n ≡ ltb (code_end m a) (a + n)
  few_own =
      let k = min n (min (code_end m a) (size m) - a) in
      let within = code_end_within m a in
      simp (length-take, length-drop)
      (alike (ltb (code_end m a) (a + n)) _ (λ e. lt-ltb k n (omega (arith, ltb-true (code_end m a) (a + n) e)))
      (λ e. le-ltb k n (omega (arith, ltb-false (code_end m a) (a + n) e))))

-- what is behind a check that fails does not matter
none_there : (f f' l l' r r' h h' : Bool) (i i' : Instruction) → i.address ≡ i'.address → checked true f l r h i ≡ checked true f' l' r' h' i'
unfolding checked
none_there f f' l l' r r' h h' i i' e = cc

few_there : (f r r' h h' : Bool) (i i' : Instruction) → i.address ≡ i'.address → i.code ≡ i'.code → checked false f true r h i ≡ checked false f true r' h' i'
unfolding checked
few_there true r r' h h' i i' e k = cc
few_there false r r' h h' i i' e k = cc

-- THE FETCH: its checks in order, on memory itself, and the instruction that is then there
abbrev pub checked_at : Memory → ℕ → (none few : Bool) → Instruction
checked_at m a none few =
    let code = M₁ m a / 16 in
    let i = aok_at m a code in
    checked none (leb (row_of code).functions i.function) few (misnamed (row_of code).byte i.ra i.rb) (eqb code 0) i

module _ (m : Memory) (a : ℕ) where
  abbrev row : Row
  row = row_of (M₁ m a / 16)

  positive : 0 < row.size
  unfolding parts
  positive = omega (arith, length_rule (M₁ m a / 16))

  is_none : leb (code_end m a) a ≡ true → fetch m a ≡ checked_at m a true (ltb (code_end m a) (a + row.size))
  unfolding fetch parsed own_bytes size_at aok_at
  is_none e = rw (none_own m a row.size positive, e) (none_there _ _ _ _ _ _ _ _ _ _ refl)

  module _ (some : a < code_end m a) where
    first : get_or (take row.size (drop a (take (code_end m a) m.bytes))) 0 0 ≡ M₁ m a
    first = own m a row.size 0 positive (omega arith) ∙ ap (M₁ m) (add-zero a)

    is_few : ltb (code_end m a) (a + row.size) ≡ true → fetch m a ≡ checked_at m a false true
    unfolding fetch parsed own_bytes size_at aok_at
    is_few e = rw (first, none_own m a row.size positive, lt-leb (code_end m a) a some, few_own m a row.size positive, e) (few_there _ _ _ _ _ _ _ refl refl)

    is_whole : ltb (code_end m a) (a + row.size) ≡ false → fetch m a ≡ checked_at m a false false
    unfolding fetch parsed own_bytes size_at aok_at constant_in parts has_register_byte
    is_whole e =
        let n = row.size in
        let long : a + n ≤ code_end m a = ltb-false (code_end m a) (a + n) e in
        let rule : n ≡ parts row = length_rule (M₁ m a / 16) in
        let second : T (has_register_byte row.byte) → get_or (take n (drop a (take (code_end m a) m.bytes))) 1 0 ≡ M₁ m (a + 1) =
        λ t. own m a n 1 (rw rule (two row t)) (omega (arith, two row t)) in
        rw first
        (cc (
          none_own m a n positive,
          lt-leb (code_end m a) a some,
          few_own m a n positive,
          e,
          half_same (names_a row.byte) _ _ (λ t. ap (◌/ 16) (second (there_a (names_a row.byte) (names_b row.byte) t))),
          half_same (names_b row.byte) _ _ (λ t. ap (◌% 16) (second (there_b (names_a row.byte) (names_b row.byte) t))),
          cond_same (ltb 8 n) _ _ 0 (λ t. own_number 8 m a n (n - 8) (omega (arith, ltb→lt 8 n t)) (omega (arith, ltb→lt 8 n t))),
        ))

  pub fetch_is : fetch m a ≡ checked_at m a (leb (code_end m a) a) (ltb (code_end m a) (a + row.size))
  fetch_is = none (leb (code_end m a) a) refl
    where
      few : (b : Bool) → ltb (code_end m a) (a + row.size) ≡ b → leb (code_end m a) a ≡ false → fetch m a ≡ checked_at m a false b
      few true e h = is_few (leb-false (code_end m a) a h) e
      few false e h = is_whole (leb-false (code_end m a) a h) e

      none : (b : Bool) → leb (code_end m a) a ≡ b → fetch m a ≡ checked_at m a b (ltb (code_end m a) (a + row.size))
      none true e = is_none e
      none false e = few (ltb (code_end m a) (a + row.size)) refl e

-- an instruction that is checked to AOK is the one given; its function is in the table, and it is no halt
checked_aok : (f n l r h : Bool) (i : Instruction) → (checked f n l r h i).status ≡ aok → (checked f n l r h i ≡ i) × (n ≡ false) × (h ≡ false)
unfolding checked stopping
checked_aok true n l r h i e = (cc, cc, cc)
checked_aok false true l r h i e = (cc, cc, cc)
checked_aok false false true r h i e = (cc, cc, cc)
checked_aok false false false true h i e = (cc, cc, cc)
checked_aok false false false false true i e = (cc, cc, cc)
checked_aok false false false false false i e = (refl, refl, refl)

-- what is fetched with AOK is this
pub fetch_aok : (m : Memory) (a : ℕ) → (fetch m a).status ≡ aok → fetch m a ≡ aok_at m a (M₁ m a / 16)
fetch_aok m a e = fetch_is m a ∙ (checked_aok _ _ _ _ _ _ (ap (λ i. i.status) (sym (fetch_is m a)) ∙ e)).0

-- and its code has functions, and is no halt
pub aok_code : (m : Memory) (a : ℕ) → (fetch m a).status ≡ aok → (1 ≤ M₁ m a / 16) × (M₁ m a / 16 < unknown_code)
unfolding aok_at
aok_code m a e =
    let code = M₁ m a / 16 in
    let passed = checked_aok _ _ _ _ _ _ (ap (λ i. i.status) (sym (fetch_is m a)) ∙ e) in
    let some : 0 < code = lt_of_not-le (λ h. eqb-false code 0 passed.2 (omega arith)) in
    let known : code < unknown_code = lt_of_not-le (λ h. omega (arith, leb-false (row_of code).functions (M₁ m a % 16) passed.1, no_functions code h)) in
    (omega arith, known)

-- a bad status is that of a nop that goes nowhere, with the reason of its fetch
checked_bad : (f n l r h : Bool) (i : Instruction) (bad : Status) → i.status ≡ aok → is_bad bad ≡ true → (checked f n l r h i).status ≡ bad
    → checked f n l r h i ≡ stopping i.address bad (checked f n l r h i).fault
unfolding checked stopping is_bad
checked_bad true n l r h i bad a b e = cc e
checked_bad false true l r h i bad a b e = cc e
checked_bad false false true r h i bad a b e = cc e
checked_bad false false false true h i bad a b e = cc e
checked_bad false false false false true i bad a b e = cc e
checked_bad false false false false false i bad a b e = cc (ap is_bad (sym a ∙ e))

pub fetch_bad : (m : Memory) (a : ℕ) (bad : Status) → is_bad bad ≡ true → (fetch m a).status ≡ bad → fetch m a ≡ stopping a bad (fetch m a).fault
unfolding fetch parsed
fetch_bad m a bad b e = checked_bad _ _ _ _ _ _ bad refl b e

-- "Only then is 0x00 HLT."
pub fetch_halt : (m : Memory) (a : ℕ) → a < code_end m a → M₁ m a ≡ 0 → fetch m a ≡ stopping a hlt no_fault
unfolding checked stopping misnamed names_a names_b row_of table aok_at
fetch_halt m a h e = fetch_is m a ∙ rw (e, lt-leb (code_end m a) a h, le-ltb (code_end m a) (a + 1) (omega arith)) refl

-- Fetch, load and store on two memories: the first two look only at the bytes that they are said to look at, and a store makes no byte differ.
use Rattle.std.specs.Prelude.{ℕ, zero, suc, ◌+◌, ◌-◌, ◌≤◌, ◌<◌, ◌/◌, ◌%◌, Bool, ◌||◌, List, ◌≡◌, T, eqb, length, get_or, set}
use Rattle.std.proofs.Math.Bool.{true, false, cond}
use Rattle.std.proofs.Math.Path.{refl, ap, sym}
use Rattle.std.proofs.Common.{◌∙◌, arith, length-set, get_or-set_same, get_or-set_other}
use Rattle.std.proofs.Math.Decide.{dec_lt, ℕ_discrete}
use borrow.Author.Tests.{ltb-false, leb-false}
use Rattle.std.proofs.Math.Dec.{ltb, leb, ltb→lt}
use Rattle.std.proofs.Math.ListN.{get_or-eq_default}
use Rattle.machine.specs.declared.Executed.{Executed}
use Rattle.machine.specs.declared.Instruction.{Instruction}
use Rattle.machine.specs.declared.Fault.{Fault}
use Rattle.machine.specs.Types.{Option, no_fault, faulty}
use Rattle.machine.specs.declared.Fault.TheVariants.{FirstMissing as first_missing, NoCode as no_code, NoFunction as no_function}
use Rattle.machine.specs.declared.Fault.TheVariants.{LaterMissing as later_missing, NoRegister as no_register}
use Rattle.laws.specs.Memory.{length_placed}
use Rattle.machine.specs.Words.{number, placed}
use Rattle.machine.specs.Memory.{Memory, holding, size, code_end, inside, load, store}
use Rattle.machine.specs.Table.{Row, row_of, RegisterByte, no_byte, both_named, only_b, only_a}
use Rattle.machine.specs.Fetch.{fetch, size_at, checked, half, names_a, names_b, misnamed, fault_at, blame_of}
use Rattle.machine.specs.Stages.{stores, access_address, stored_word, new_memory}
use Rattle.published.specs.Lengths.{length_rule, two, parts, has_register_byte}
use Rattle.published.specs.Fetching.{M₁, M₈, aok_at, fetch_is, half_same, cond_same}
use Rattle.junk.specs.Statement.{looked_on, looked}

-- two memories that differ in nothing but their bytes, of one size, and are the same at each address of which E holds
pub record Alike (E : ℕ → Type 0) (u u' : Memory) : Type 0 where
  pub rest : u' ≡ holding u u'.bytes
  pub sizes : size u ≡ size u'
  pub same : (x : ℕ) → E x → M₁ u x ≡ M₁ u' x

-- WHAT AN ADDRESS REACHES does not depend on the bytes
module _ (u : Memory) (b : List ℕ) (l : size u ≡ length b) where
  end_holding : (a : ℕ) → code_end u a ≡ code_end (holding u b) a
  unfolding code_end
  end_holding a = rw l

  inside_holding : (a : ℕ) → inside u a ≡ inside (holding u b) a
  unfolding inside
  inside_holding a = rw l

module _ (E : ℕ → Type 0) (u u' : Memory) (h : Alike E u u') where
  pub end_alike : (a : ℕ) → code_end u a ≡ code_end u' a
  end_alike a = end_holding u u'.bytes h.sizes a ∙ sym (ap (λ (m : Memory). code_end m a) h.rest)

  pub inside_alike : (a : ℕ) → inside u a ≡ inside u' a
  inside_alike a = inside_holding u u'.bytes h.sizes a ∙ sym (ap (λ (m : Memory). inside m a) h.rest)

  -- so a bad fetch is blamed on the same byte
  pub blame_alike : (i : Instruction) → blame_of u i ≡ blame_of u' i
  unfolding blame_of fault_at
  blame_alike i = cc (by i.fault)
    where
      by : (f : Option Fault) → fault_at u i.address f ≡ fault_at u' i.address f
      by no_fault = refl
      by (faulty first_missing) = refl
      by (faulty no_code) = refl
      by (faulty no_function) = refl
      by (faulty later_missing) = end_alike i.address
      by (faulty no_register) = refl

-- STORE
set_both : (u u' : List ℕ) (a v x : ℕ) → length u ≡ length u' → get_or u x 0 ≡ get_or u' x 0 → get_or (set u a v) x 0 ≡ get_or (set u' a v) x 0
set_both u u' a v x l h = go (ℕ_discrete x a) (dec_lt a (length u))
  where
    go : Dec (x ≡ a) → Dec (a < length u) → get_or (set u a v) x 0 ≡ get_or (set u' a v) x 0
    go (no n) _ = get_or-set_other u a x v 0 n ∙ (h ∙ sym (get_or-set_other u' a x v 0 n))
    go (yes e) (yes q) = rw e (get_or-set_same u a v 0 q ∙ sym (get_or-set_same u' a v 0 (omega arith)))
    go (yes e) (no q) =
        get_or-eq_default (set u a v) 0 (omega (arith, length-set u a v)) ∙ sym (get_or-eq_default (set u' a v) 0 (omega (arith, length-set u' a v)))

placed_both : (k : ℕ) (u u' : List ℕ) (a v x : ℕ) → length u ≡ length u' → get_or u x 0 ≡ get_or u' x 0 → get_or (placed k u a v) x 0 ≡ get_or (placed k u' a v) x 0
unfolding placed
placed_both zero u u' a v x l h = h
placed_both (suc k) u u' a v x l h =
    placed_both k (set u a (v % 256)) (set u' a (v % 256)) (a + 1) (v / 256) x (length-set u a (v % 256) ∙ (l ∙ sym (length-set u' a (v % 256)))) (set_both u u' a (v % 256) x l h)

-- a store leaves alike what was alike, and writes the same bytes
pub store_alike : (E : ℕ → Type 0) (e : Executed) (u u' : Memory) → Alike E u u' → Alike E (new_memory e u) (new_memory e u')
unfolding new_memory store
store_alike E e u u' h = rw (sym (inside_alike E u u' h a)) (go (stores e.instruction) (inside u a))
  where
    a : ℕ
    a = access_address e

    v : ℕ
    v = stored_word e

    go : (b c : Bool)
        → Alike E (cond b (cond c (holding u (placed 8 u.bytes a v)) u) u) (cond b (cond c (holding u' (placed 8 u'.bytes a v)) u') u')
    go false c = h
    go true false = h
    go true true =
        record {
          rest = ap (λ (m : Memory). holding m (placed 8 u'.bytes a v)) h.rest;
          sizes = length_placed 8 u.bytes a v ∙ (h.sizes ∙ sym (length_placed 8 u'.bytes a v));
          same = λ x q. placed_both 8 u.bytes u'.bytes a v x h.sizes (h.same x q);
        }

-- LOAD
number_same : (k : ℕ) (u u' : List ℕ) (a : ℕ) → ((x : ℕ) → a ≤ x → x < a + k → get_or u x 0 ≡ get_or u' x 0) → number k u a ≡ number k u' a
unfolding number
number_same zero u u' a h = refl
number_same (suc k) u u' a h =
    let e : get_or u a 0 ≡ get_or u' a 0 = h a (omega arith) (omega arith) in
    let f : number k u (a + 1) ≡ number k u' (a + 1) = number_same k u u' (a + 1) (λ x lo hi. h x (omega arith) (omega arith)) in
    cc

pub load_same : (u u' : Memory) (a : ℕ) → inside u a ≡ inside u' a → (inside u a ≡ true → (x : ℕ) → a ≤ x → x < a + 8 → M₁ u x ≡ M₁ u' x) → load u a ≡ load u' a
unfolding load
load_same u u' a l h = rw (sym l) (go (inside u a) refl)
  where
    go : (b : Bool) → inside u a ≡ b → cond b (M₈ u a) 0 ≡ cond b (M₈ u' a) 0
    go false e = refl
    go true e = number_same 8 u.bytes u'.bytes a (h e)

-- FETCH
some_either : (b : Bool) {x y : ℕ} → 0 < x → 0 < y → 0 < cond b x y
some_either true h k = h
some_either false h k = k

looked_some : (m : Memory) (a : ℕ) → 0 < looked m a
unfolding looked parts
looked_some m a =
    let row = row_of (M₁ m a / 16) in
    some_either (leb row.functions (M₁ m a % 16) || ltb (code_end m a) (a + row.size)) (omega arith)
    (some_either (misnamed row.byte (M₁ m (a + 1) / 16) (M₁ m (a + 1) % 16)) (omega arith) (omega (arith, length_rule (M₁ m a / 16))))

-- what a half that names no register holds does not matter
named_halves : (y : RegisterByte) (a b : ℕ) → misnamed y (half (names_a y) a) (half (names_b y) b) ≡ misnamed y a b
unfolding misnamed half names_a names_b
named_halves no_byte a b = refl
named_halves both_named a b = refl
named_halves only_b a b = refl
named_halves only_a a b = refl

-- nor does the register byte where there is none
misnamed_same : (y : RegisterByte) (b b' : ℕ) → (T (has_register_byte y) → b ≡ b') → misnamed y (b / 16) (b % 16) ≡ misnamed y (b' / 16) (b' % 16)
unfolding misnamed has_register_byte names_a names_b
misnamed_same no_byte b b' e = refl
misnamed_same both_named b b' e = ap (λ (z : ℕ). misnamed both_named (z / 16) (z % 16)) (e tt)
misnamed_same only_b b b' e = ap (λ (z : ℕ). misnamed only_b (z / 16) (z % 16)) (e tt)
misnamed_same only_a b b' e = ap (λ (z : ℕ). misnamed only_a (z / 16) (z % 16)) (e tt)

there_a : (a b : Bool) → T a → T (a || b)
there_a true b t = tt
there_a false b t = elim t [ ]

there_b : (a b : Bool) → T b → T (a || b)
there_b true b t = tt
there_b false b t = t

module _ (m m' : Memory) (a : ℕ) (end : code_end m a ≡ code_end m' a) (at : (x : ℕ) → a ≤ x → x < a + looked m a → x < code_end m a → M₁ m x ≡ M₁ m' x) where
  -- the instruction at a by its first byte, where u gives the others, and its fetch
  abbrev row : Row
  row = row_of (M₁ m a / 16)

  abbrev bad : Memory → Bool
  bad u = misnamed row.byte (M₁ u (a + 1) / 16) (M₁ u (a + 1) % 16)

  abbrev read : Memory → Instruction
  read u = aok_at u a (M₁ m a / 16)

  abbrev seen : (none unknown few : Bool) → Memory → Instruction
  seen b c d u = checked b c d (misnamed row.byte (read u).ra (read u).rb) (eqb (M₁ m a / 16) 0) (read u)

  module _ (some : a < code_end m a) where
    first_same : M₁ m a ≡ M₁ m' a
    first_same = at a (omega arith) (omega (arith, looked_some m a)) some

    -- where the first byte and the end of memory do not decide, the register byte is looked at; where that names no 15, so is the constant
    module _ (f : leb row.functions (M₁ m a % 16) ≡ false) (n : ltb (code_end m a) (a + row.size) ≡ false) where
      looked_on_lem : looked m a ≡ looked_on (bad m) row.size
      unfolding looked
      looked_on_lem = rw (f, n)

      second : T (has_register_byte row.byte) → M₁ m (a + 1) ≡ M₁ m' (a + 1)
      unfolding parts
      second t = go (bad m) refl
        where
          long : 2 ≤ row.size
          long = omega (arith, length_rule (M₁ m a / 16), two row t)

          go : (b : Bool) → bad m ≡ b → M₁ m (a + 1) ≡ M₁ m' (a + 1)
          go true e = at (a + 1) (omega arith) (omega (arith, looked_on_lem ∙ ap (λ z. looked_on z row.size) e)) (omega (arith, long, ltb-false (code_end m a) (a + row.size) n))
          go false e = at (a + 1) (omega arith) (omega (arith, long, looked_on_lem ∙ ap (λ z. looked_on z row.size) e)) (omega (arith, long, ltb-false (code_end m a) (a + row.size) n))

      bad_same : bad m ≡ bad m'
      bad_same = misnamed_same row.byte (M₁ m (a + 1)) (M₁ m' (a + 1)) second

      read_same : bad m ≡ false → read m ≡ read m'
      unfolding aok_at has_register_byte
      read_same e =
          let all : looked m a ≡ row.size = looked_on_lem ∙ ap (λ z. looked_on z row.size) e in
          let w = ltb-false (code_end m a) (a + row.size) n in
          cc (
            first_same,
            half_same (names_a row.byte) _ _ (λ t. ap (◌/ 16) (second (there_a (names_a row.byte) (names_b row.byte) t))),
            half_same (names_b row.byte) _ _ (λ t. ap (◌% 16) (second (there_b (names_a row.byte) (names_b row.byte) t))),
            cond_same (ltb 8 row.size) _ _ 0
                (λ t. number_same 8 m.bytes m'.bytes (a + (row.size - 8)) (λ x lo hi. at x (omega (arith, ltb→lt 8 row.size t)) (omega (arith, all, ltb→lt 8 row.size t)) (omega (arith, ltb→lt 8 row.size t)))),
          )

      seen_on : seen false false false m ≡ seen false false false m'
      unfolding checked aok_at
      seen_on = rw (named_halves row.byte (M₁ m (a + 1) / 16) (M₁ m (a + 1) % 16), named_halves row.byte (M₁ m' (a + 1) / 16) (M₁ m' (a + 1) % 16), sym bad_same) (go (bad m) refl)
        where
          go : (b : Bool) → bad m ≡ b → checked false false false b (eqb (M₁ m a / 16) 0) (read m) ≡ checked false false false b (eqb (M₁ m a / 16) 0) (read m')
          go true e = refl
          go false e = ap (checked false false false false (eqb (M₁ m a / 16) 0)) (read_same e)

    fetch_some : fetch m a ≡ fetch m' a
    unfolding aok_at checked
    fetch_some = fetch_is m a ∙ (go (leb (code_end m a) a) (leb row.functions (M₁ m a % 16)) (ltb (code_end m a) (a + row.size)) refl refl ∙ sym there)
      where
        there : fetch m' a ≡ seen (leb (code_end m a) a) (leb row.functions (M₁ m a % 16)) (ltb (code_end m a) (a + row.size)) m'
        there = rw (first_same, end) (fetch_is m' a)

        go : (b c d : Bool) → leb row.functions (M₁ m a % 16) ≡ c → ltb (code_end m a) (a + row.size) ≡ d → seen b c d m ≡ seen b c d m'
        go true c d f n = refl
        go false true d f n = refl
        go false false true f n = refl
        go false false false f n = seen_on f n

    -- its table length is the same, and as many are looked at
    pub size_same : size_at m a ≡ size_at m' a
    unfolding size_at
    size_same = ap (λ (b : ℕ). (row_of (b / 16)).size) first_same

    pub looked_alike : looked m a ≡ looked m' a
    unfolding looked
    looked_alike = rw (sym first_same, sym end) (go (leb row.functions (M₁ m a % 16)) (ltb (code_end m a) (a + row.size)) refl refl)
      where
        go : (c d : Bool) → leb row.functions (M₁ m a % 16) ≡ c → ltb (code_end m a) (a + row.size) ≡ d
            → cond (c || d) 1 (looked_on (bad m) row.size) ≡ cond (c || d) 1 (looked_on (bad m') row.size)
        go true d f n = refl
        go false true f n = refl
        go false false f n = ap (λ z. looked_on z row.size) (bad_same f n)

  -- without a first byte none is looked at
  missing : (u : Memory) → leb (code_end u a) a ≡ true → fetch u a ≡ checked true true true true true (read m)
  unfolding checked aok_at
  missing u e = rw e at (fetch_is u a)

  fetch_none : leb (code_end m a) a ≡ true → fetch m a ≡ fetch m' a
  fetch_none e = missing m e ∙ sym (missing m' (ap (λ (z : ℕ). leb z a) (sym end) ∙ e))

  pub same_fetch : fetch m a ≡ fetch m' a
  same_fetch = go (leb (code_end m a) a) refl
    where
      go : (b : Bool) → leb (code_end m a) a ≡ b → fetch m a ≡ fetch m' a
      go true e = fetch_none e
      go false e = fetch_some (leb-false (code_end m a) a e)

-- what fetch looks at are bytes of the instruction
pub looked_within : (m : Memory) (a : ℕ) → looked m a ≤ size_at m a
unfolding looked size_at parts misnamed names_a names_b has_register_byte
looked_within m a =
    go (leb row.functions (M₁ m a % 16) || ltb (code_end m a) (a + row.size)) row.byte refl
  where
    row : Row
    row = row_of (M₁ m a / 16)

    named : (c : Bool) → T (has_register_byte row.byte) → looked_on c row.size ≤ row.size
    named true t = omega (arith, length_rule (M₁ m a / 16), two row t)
    named false t = omega arith

    go : (b : Bool) (y : RegisterByte) → row.byte ≡ y
        → cond b 1 (looked_on (misnamed y (M₁ m (a + 1) / 16) (M₁ m (a + 1) % 16)) row.size) ≤ row.size
    go true y e = omega (arith, length_rule (M₁ m a / 16))
    go false no_byte e = omega arith
    go false both_named e = named (misnamed both_named (M₁ m (a + 1) / 16) (M₁ m (a + 1) % 16)) (rw e tt)
    go false only_b e = named (misnamed only_b (M₁ m (a + 1) / 16) (M₁ m (a + 1) % 16)) (rw e tt)
    go false only_a e = named (misnamed only_a (M₁ m (a + 1) / 16) (M₁ m (a + 1) % 16)) (rw e tt)

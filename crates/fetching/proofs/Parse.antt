-- Fetch: one law for each of the checks, in their order. Assumes nothing.
use mathlib.Core.Path.{◌≡◌, refl, ap, ◌∙◌}
use mathlib.Core.Bool.{Bool, true, false, cond, not, ◌||◌}
use mathlib.Core.List.{List}
use Prim.Native.Nat.{ℕ, ◌+◌, ◌-◌, ◌/◌, ◌%◌, ◌≤◌, ◌<◌, min}
use native.Mathlib.Omega.{arith}
use borrow.Author.Tests.{eq-eqb, ne_eqb, lt-ltb, le-ltb, le-leb, lt-leb, ltb-true, ltb-false, leb-true, leb-false, not-true, not-false}
use lib.Dec.{T, eqb, ltb, leb}
use lib.ListN.{length}
use Rattle.machine.specs.declared.Status.TheVariants.{Aok as aok, Hlt as hlt, Adr as adr, Ins as ins}
use Rattle.machine.specs.Types.{Window}
use Rattle.machine.specs.Types.{no_window, within}
use Rattle.machine.specs.declared.Instruction.{Instruction}
use Rattle.machine.specs.declared.Fault.{Fault}
use Rattle.machine.specs.Types.{Option, no_fault, faulty}
use Rattle.machine.specs.declared.Fault.TheVariants.{FirstMissing as first_missing, NoCode as no_code, NoFunction as no_function}
use Rattle.machine.specs.declared.Fault.TheVariants.{LaterMissing as later_missing, NoRegister as no_register}
use Rattle.machine.specs.Words.{sum, number}
use Rattle.machine.specs.Memory.{Memory, lent, through as seen, size, seen_to, code_end, inside, load}
use Rattle.machine.specs.Table.{row_of, RegisterByte, no_byte, both_named, only_b, only_a}
use Rattle.machine.specs.Fetch.{stopping, not_in_table, names_a, names_b, misnamed, half, checked, fetch}
use Rattle.published.specs.Lengths.{has_register_byte, length_rule, two}
use Rattle.published.specs.Fetching.{M₁, M₈, aok_at, fetch_is}
use Rattle.lookup.specs.declared.kinds.RegisterByte.{RegisterByte as Kind}
use Rattle.lookup.specs.declared.kinds.RegisterByte.TheVariants.{NoByte, BothNamed, OnlyB, OnlyA}
use Rattle.lookup.specs.Kinds.{byte_meant}
use Rattle.fetching.specs.Halves.{filled}

abbrev code_at : Memory → ℕ → ℕ
code_at m a = M₁ m a / 16

-- the halves of the byte as the code takes it
high : (y : RegisterByte) (x : ℕ) → filled y x / 16 ≡ half (names_a y) (x / 16)
unfolding filled names_a half
high no_byte x = refl
high both_named x = refl
high only_b x = omega arith
high only_a x = omega arith

low : (y : RegisterByte) (x : ℕ) → filled y x % 16 ≡ half (names_b y) (x % 16)
unfolding filled names_b half
low no_byte x = refl
low both_named x = refl
low only_b x = omega arith
low only_a x = omega arith

or_false : (b : Bool) → b ≡ b || false
or_false true = refl
or_false false = refl

-- a named register is 15, by the case of the code's constant table
unfoldable pub misnamed_by : Kind → (a b : ℕ) → Bool
misnamed_by NoByte a b = false
misnamed_by BothNamed a b = eqb a 15 || eqb b 15
misnamed_by OnlyB a b = eqb b 15
misnamed_by OnlyA a b = eqb a 15

pub misnamed_by_lem : (y : Kind) (a b : ℕ) → misnamed_by y a b ≡ misnamed (byte_meant y) a b
unfolding misnamed_by byte_meant misnamed names_a names_b
misnamed_by_lem NoByte a b = refl
misnamed_by_lem BothNamed a b = refl
misnamed_by_lem OnlyB a b = refl
misnamed_by_lem OnlyA a b = or_false (eqb a 15)

-- the ways of `misnamed`
module _ (y : Kind) (a b : ℕ) where
  pub none_named : y ≡ NoByte → false ≡ misnamed (byte_meant y) a b
  unfolding misnamed byte_meant names_a names_b
  none_named h = cc

  pub both : y ≡ BothNamed → (eqb a 15 || eqb b 15) ≡ misnamed (byte_meant y) a b
  unfolding misnamed byte_meant names_a names_b
  both h = cc

  pub second_named : y ≡ OnlyB → eqb b 15 ≡ misnamed (byte_meant y) a b
  unfolding misnamed byte_meant names_a names_b
  second_named h = cc

  pub first_named : y ≡ OnlyA → eqb a 15 ≡ misnamed (byte_meant y) a b
  unfolding misnamed byte_meant names_a names_b
  first_named h = cc (or_false (eqb a 15))

pub some_byte : (y : Kind) → (y ≡ NoByte → ⊥) → byte_meant y ≡ no_byte → ⊥
unfolding byte_meant
some_byte NoByte h e = h refl
some_byte BothNamed h e = cc
some_byte OnlyB h e = cc
some_byte OnlyA h e = cc

named : (y : RegisterByte) → (y ≡ no_byte → ⊥) → T (has_register_byte y)
unfolding has_register_byte names_a names_b
named no_byte h = absurd (h refl)
named both_named h = tt
named only_b h = tt
named only_a h = tt

-- an instruction with a register byte has a second byte
pub second : (code : ℕ) → ((row_of code).byte ≡ no_byte → ⊥) → 2 ≤ (row_of code).size
second code h = omega (arith, length_rule code, two (row_of code) (named (row_of code).byte h))

-- what the test of the length leaves
pub room : (z l : ℕ) → not (leb z l) ≡ false → z ≤ l
room z l h = leb-true z l (not-false (leb z l) h)

-- WHERE THE BYTES END
pub all_seen : (w : Window) (size a : ℕ) → w ≡ no_window → size ≡ seen_to w size a
unfolding seen_to
all_seen w size a e = cc

pub before_first : (w : Window) (size a first end n : ℕ) → w ≡ within (first, end) → a < first → n ≡ min a size → n ≡ seen_to w size a
unfolding seen_to
before_first w size a first end n e h f = cc (lt-ltb a first h)

pub to_the_end : (w : Window) (size a first end n : ℕ) → w ≡ within (first, end) → first ≤ a → n ≡ min end size → n ≡ seen_to w size a
unfolding seen_to
to_the_end w size a first end n e h f = cc (le-ltb a first h)

-- THE WAYS OUT
-- n is where the bytes end that the instruction may have
pub end_lent : (w : Window) (b : List ℕ) (a n : ℕ) → n ≡ seen_to w (length b) a → n ≡ code_end (seen w (lent b)) a
unfolding code_end
end_lent w b a n e = e

-- which is inside memory
pub end_inside : (w : Window) (size a n : ℕ) → n ≡ seen_to w size a → n ≤ size
unfolding seen_to
end_inside no_window size a n e = omega arith
end_inside (within (first, end)) size a n e = omega arith

pub outside : (m : Memory) (a n : ℕ) (r : Instruction) → n ≡ code_end m a → n ≤ a → r ≡ stopping a adr (faulty first_missing) → r ≡ fetch m a
unfolding checked aok_at
outside m a n r en h e = cc (fetch_is m a, le-leb n a h)

module _ (m : Memory) (a n f : ℕ) (en : n ≡ code_end m a) (h : a < n) (ef : f ≡ (row_of (code_at m a)).functions) where
  pub no_function_lem : (r : Instruction) (t : Option Fault) → not (ltb (M₁ m a % 16) f) ≡ true → t ≡ cond (eqb f 0) (faulty no_code) (faulty no_function) → r ≡ stopping a ins t → r ≡ fetch m a
  unfolding checked not_in_table aok_at
  no_function_lem r t p et e = cc (fetch_is m a, lt-leb n a h, le-leb f (M₁ m a % 16) (ltb-false (M₁ m a % 16) f (not-true _ p)))

  module _ (z : ℕ) (p : not (ltb (M₁ m a % 16) f) ≡ false) (ez : z ≡ (row_of (code_at m a)).size) where
    in_table : leb f (M₁ m a % 16) ≡ false
    in_table = lt-leb f (M₁ m a % 16) (ltb-true (M₁ m a % 16) f (not-false _ p))

    pub cut_short : (r : Instruction) → not (leb z (n - a)) ≡ true → r ≡ stopping a adr (faulty later_missing) → r ≡ fetch m a
    unfolding checked aok_at
    cut_short r q e =
        let short = leb-false z (n - a) (not-true _ q) in
        cc (fetch_is m a, lt-leb n a h, in_table, lt-ltb n (a + z) (omega arith))

    module _ (y : RegisterByte) (b : ℕ) (t : Bool) (q : not (leb z (n - a)) ≡ false) (ey : y ≡ (row_of (code_at m a)).byte)
        (eb : b ≡ filled y (M₁ m (a + 1))) (et : t ≡ misnamed y (b / 16) (b % 16)) where
      high_is : b / 16 ≡ (aok_at m a (code_at m a)).ra
      unfolding aok_at
      high_is = cc (high (row_of (code_at m a)).byte (M₁ m (a + 1)))

      low_is : b % 16 ≡ (aok_at m a (code_at m a)).rb
      unfolding aok_at
      low_is = cc (low (row_of (code_at m a)).byte (M₁ m (a + 1)))

      tested : misnamed (row_of (code_at m a)).byte (aok_at m a (code_at m a)).ra (aok_at m a (code_at m a)).rb ≡ t
      tested = cc (high_is, low_is)

      long : ltb n (a + (row_of (code_at m a)).size) ≡ false
      long = le-ltb n (a + (row_of (code_at m a)).size) (omega (arith, room z (n - a) q))

      -- the checks that are passed
      through : fetch m a ≡ checked false false false t (eqb (code_at m a) 0) (aok_at m a (code_at m a))
      unfolding aok_at
      through =
          fetch_is m a ∙ rw (← en, lt-leb n a h, ← ef, in_table, long)
          (ap (λ (x : Bool). checked false false false x (eqb (code_at m a) 0) (aok_at m a (code_at m a))) tested)

      pub names_none : (r : Instruction) → t ≡ true → r ≡ stopping a ins (faulty no_register) → r ≡ fetch m a
      unfolding checked aok_at
      names_none r k e = cc through

      pub halts : (r : Instruction) → t ≡ false → code_at m a ≡ 0 → r ≡ stopping a hlt no_fault → r ≡ fetch m a
      unfolding checked aok_at
      halts r k o e = cc (through, eq-eqb (code_at m a) 0 o)

      pub fetches : (c next : ℕ) → t ≡ false → (code_at m a ≡ 0 → ⊥) → c ≡ cond (ltb 8 z) (M₈ m (a + (z - 8))) 0 → next ≡ sum a z
          → record { address = a; status = aok; code = code_at m a; function = M₁ m a % 16; ra = b / 16; rb = b % 16; constant = c; next = next; fault = no_fault } ≡ fetch m a
      unfolding checked aok_at
      fetches c next k o ec en = cc (through, ne_eqb (code_at m a) 0 o, high_is, low_is)

-- THE CONSTANT, loaded from inside an instruction that is whole
pub constant_there : (b : List ℕ) (at n c : ℕ) → at + n ≤ length b → 8 < n → c ≡ load (lent b) (at + (n - 8))
    → c ≡ cond (ltb 8 n) (number 8 b (at + (n - 8))) 0
unfolding load inside
constant_there b at n c fits long e = cc (lt-ltb 8 n long, lt-ltb (at + (n - 8) + 7) (length b) (omega arith))

pub no_constant : (b : List ℕ) (at n : ℕ) → n ≤ 8 → 0 ≡ cond (ltb 8 n) (number 8 b (at + (n - 8))) 0
no_constant b at n short = cc (le-ltb 8 n short)

-- "The core ignores the unused half of the register byte" (02, #102): the fetched instruction does not depend on it.
use Rattle.std.specs.Prelude.{ℕ, zero, suc, ◌+◌, ◌-◌, ◌/◌, ◌%◌, ◌≤◌, ◌≡◌, refl, Bool, true, false, cond, T, ltb}
use Rattle.std.proofs.Common.{arith}
use Rattle.machine.specs.Words.{number}
use Rattle.machine.specs.Memory.{Memory, code_end}
use Rattle.machine.specs.Table.{RegisterByte, row_of}
use Rattle.machine.specs.Fetch.{names_a, names_b, fetch}
use Rattle.published.specs.Lengths.{length_rule, parts, has_register_byte}
use Rattle.published.specs.Fetching.{M₁, aok_at, fetch_is, half_same, cond_same}

-- what the register byte of the instruction at a is
abbrev pub byte_at : Memory → ℕ → RegisterByte
byte_at m a = (row_of (M₁ m a / 16)).byte

-- two memories alike but for the halves of that byte that name no register
pub record SameButFillers (m m' : Memory) (a : ℕ) : Type 0 where
  pub ends : code_end m a ≡ code_end m' a
  pub bytes : (x : ℕ) → (T (has_register_byte (byte_at m a)) → x ≡ a + 1 → ⊥) → M₁ m x ≡ M₁ m' x
  pub high : T (names_a (byte_at m a)) → M₁ m (a + 1) / 16 ≡ M₁ m' (a + 1) / 16
  pub low : T (names_b (byte_at m a)) → M₁ m (a + 1) % 16 ≡ M₁ m' (a + 1) % 16

same_number : (k : ℕ) (m m' : Memory) (b : ℕ) → ((x : ℕ) → b ≤ x → M₁ m x ≡ M₁ m' x) → number k m.bytes b ≡ number k m'.bytes b
unfolding number
same_number zero m m' b h = refl
same_number (suc k) m m' b h = rw (h b (omega arith), same_number k m m' (b + 1) (λ x l. h x (omega arith)))

-- the length of an instruction with a constant and a register byte
ten : (c r : Bool) (n : ℕ) → n ≡ 1 + cond r 1 0 + cond c 8 0 → T c → T r → 10 ≤ n
ten true true n e t u = omega arith
ten false r n e t u = elim t [ ]
ten true false n e t u = elim u [ ]

module _ (m m' : Memory) (a : ℕ) (s : SameButFillers m m' a) where
  same_first : M₁ m a ≡ M₁ m' a
  same_first = s.bytes a (λ t e. omega arith)

  -- a constant begins behind the register byte
  behind : T (ltb 8 (row_of (M₁ m a / 16)).size) → T (has_register_byte (byte_at m a)) → 10 ≤ (row_of (M₁ m a / 16)).size
  unfolding parts
  behind = ten (ltb 8 (row_of (M₁ m a / 16)).size) (has_register_byte (byte_at m a)) (row_of (M₁ m a / 16)).size (length_rule (M₁ m a / 16))

  same_there : aok_at m a (M₁ m a / 16) ≡ aok_at m' a (M₁ m a / 16)
  unfolding aok_at
  same_there =
      let long = (row_of (M₁ m a / 16)).size in
      cc (
        same_first,
        half_same (names_a (byte_at m a)) _ _ s.high,
        half_same (names_b (byte_at m a)) _ _ s.low,
        cond_same (ltb 8 long) _ _ 0 (λ c. same_number 8 m m' (a + (long - 8)) (λ x l. s.bytes x (λ r e. omega (arith, behind c r)))),
      )

  pub fillers_ignored : fetch m a ≡ fetch m' a
  fillers_ignored = cc (fetch_is m a, fetch_is m' a, s.ends, same_first, same_there)

-- Sums and differences that wrap, over the modulus. Assumes nothing.
use Rattle.std.proofs.Common.{◌≡◌, ℕ, ◌+◌, ◌-◌, ◌%◌, ◌<◌, ◌≤◌, Bool, true, false, ◌&&◌, ltb, leb, sym, refl, ◌∙◌, mod-eq_of_lt, arith, ltb-false, ltb-true, le-ltb, le-leb}
use native.Mathlib.Nat.{mod-add-mod, add-mod_right, mod-eq-sub-mod}
use borrow.Author.Tests.{lt-leb}

-- what wraps to b when a is added is b less a, wrapped
pub wrapped_difference : (m r b a : ℕ) → r < m → a ≤ m → (r + a) % m ≡ b → r ≡ (b + m - a) % m
wrapped_difference m r b a h k e =
    let p : b + m - a ≡ (r + a) % m + (m - a) = omega arith in
    let q : r + a + (m - a) ≡ r + m = omega arith in
    sym (rw (p, mod-add-mod, q, add-mod_right) (mod-eq_of_lt h))

-- a + k without wrapping is below n where the wrapped sum is, and did not fall below a
pub unwrapped_below : (m a k n : ℕ) → a < m → k < m → n ≤ m → leb a ((a + k) % m) && ltb ((a + k) % m) n ≡ ltb (a + k) n
unwrapped_below m a k n p q u = by (ltb (a + k) m) refl
  where
    by : (t : Bool) → ltb (a + k) m ≡ t → leb a ((a + k) % m) && ltb ((a + k) % m) n ≡ ltb (a + k) n
    by true e =
        let h = ltb-true (a + k) m e in
        rw (mod-eq_of_lt h, le-leb a (a + k) (omega arith))
    by false e =
        let h = ltb-false (a + k) m e in
        let s : (a + k) % m ≡ a + k - m = mod-eq-sub-mod h ∙ mod-eq_of_lt (omega arith) in
        rw (s, lt-leb a (a + k - m) (omega arith)) (sym (le-ltb (a + k) n (omega arith)))

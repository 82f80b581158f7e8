-- The premise is decidable: a test on the plain history that is true exactly when it holds.
use Prim.Native.Nat.{ℕ, zero, suc, ◌+◌, ◌-◌, ◌<◌, max}
use Rattle.std.specs.Prelude.{Bool, ◌&&◌, ◌||◌, ◌↔◌, ◌≡◌}
use Rattle.std.proofs.Math.Bool.{true, false, not}
use Rattle.std.proofs.Common.{true≢false, sym, ◌∙◌, subst, arith}
use Rattle.std.proofs.Math.Path.{refl}
use borrow.Author.Tests.{ltb-true, leb-true, lt-ltb, le-leb, lt-leb, leb-false}
use Rattle.std.proofs.Math.Dec.{ltb, leb}
use Rattle.machine.specs.Types.{is_set}
use Rattle.machine.specs.Memory.{code_end, inside}
use Rattle.machine.specs.Fetch.{size_at}
use Rattle.machine.specs.Stages.{stores, access_address}
use Rattle.machine.specs.Plain.{Plain, is_stopped, fetched, executed, steps}
use Rattle.clocked.specs.Premise.{writes_byte, has_byte, Premise}
use Rattle.account.proofs.Sight.{both, size_positive}
use Rattle.account.proofs.Timing.{up_to}
use Rattle.account.specs.Decide.{UntouchedWithin, all, asked, clear, touches, untouched}

-- the ranges of 8 bytes from a and of k bytes from b, cut at n, have x in common
module _ (a b k n x : ℕ) where
  common : leb a x && ltb x (a + 8) ≡ true → leb b x && (ltb x (b + k) && ltb x n) ≡ true → ltb a (b + k) && (ltb b (a + 8) && (ltb a n && ltb b n)) ≡ true
  common h l =
      let u = both (leb a x) (ltb x (a + 8)) h in
      let v = both (leb b x) (ltb x (b + k) && ltb x n) l in
      let w = both (ltb x (b + k)) (ltb x n) v.1 in
      let a1 = leb-true a x u.0 in
      let a2 = ltb-true x (a + 8) u.1 in
      let b1 = leb-true b x v.0 in
      let b2 = ltb-true x (b + k) w.0 in
      let b3 = ltb-true x n w.1 in
      cc (lt-ltb a (b + k) (omega arith), lt-ltb b (a + 8) (omega arith), lt-ltb a n (omega arith), lt-ltb b n (omega arith))

-- and if they meet, the greater start is such
module _ (a b k n : ℕ) (p : 0 < k) (h : ltb a (b + k) && (ltb b (a + 8) && (ltb a n && ltb b n)) ≡ true) where
  meet : (leb a (max a b) && ltb (max a b) (a + 8) ≡ true) × (leb b (max a b) && (ltb (max a b) (b + k) && ltb (max a b) n) ≡ true)
  meet =
      let u = both (ltb a (b + k)) (ltb b (a + 8) && (ltb a n && ltb b n)) h in
      let v = both (ltb b (a + 8)) (ltb a n && ltb b n) u.1 in
      let w = both (ltb a n) (ltb b n) v.1 in
      let h1 = ltb-true a (b + k) u.0 in
      let h2 = ltb-true b (a + 8) v.0 in
      let h3 = ltb-true a n w.0 in
      let h4 = ltb-true b n w.1 in (
        cc (le-leb a (max a b) (omega arith), lt-ltb (max a b) (a + 8) (omega arith)),
        cc (le-leb b (max a b) (omega arith), lt-ltb (max a b) (b + k) (omega arith), lt-ltb (max a b) n (omega arith)),
      )

module _ (s t : Plain) where
  pub touches_if : (x : ℕ) → writes_byte s x ≡ true → has_byte t x ≡ true → touches s t ≡ true
  unfolding touches writes_byte has_byte
  touches_if x h k =
      let a = access_address (executed s) in
      let b = t.machine.address in
      let w = both (stores (fetched s)) (inside s.memory a && (leb a x && ltb x (a + 8))) h in
      let v = both (inside s.memory a) (leb a x && ltb x (a + 8)) w.1 in
      cc (w.0, v.0, common a b (size_at t.memory b) (code_end t.memory b) x v.1 k)

  pub touches_only : touches s t ≡ true → (x : ℕ) × (writes_byte s x ≡ true) × (has_byte t x ≡ true)
  unfolding touches writes_byte has_byte
  touches_only h =
      let a = access_address (executed s) in
      let b = t.machine.address in
      let k = size_at t.memory b in
      let n = code_end t.memory b in
      let w = both (stores (fetched s)) (inside s.memory a && (ltb a (b + k) && (ltb b (a + 8) && (ltb a n && ltb b n)))) h in
      let v = both (inside s.memory a) (ltb a (b + k) && (ltb b (a + 8) && (ltb a n && ltb b n))) w.1 in
      let m = meet a b k n (size_positive t.memory b) v.1 in
      (max a b, cc (w.0, v.0, m.0), m.1)

pub all_each : (n : ℕ) (f : ℕ → Bool) → all n f ≡ true → (i : ℕ) → i < n → f i ≡ true
unfolding all
all_each zero f h i q = absurd (omega arith)
all_each (suc n) f h i q =
    let b = both (f n) (all n f) h in
    up_to {P = λ (j : ℕ). f j ≡ true} n (all_each n f b.1) b.0 i q

pub each_all : (n : ℕ) (f : ℕ → Bool) → ((i : ℕ) → i < n → f i ≡ true) → all n f ≡ true
unfolding all
each_all zero f h = refl
each_all (suc n) f h = cc (h n (omega arith), each_all n f (λ i q. h i (omega arith)))

module _ (w : ℕ) (s : Plain) (K : ℕ) where
  pub untouched_sound : untouched w s K ≡ true → UntouchedWithin w s K
  unfolding untouched clear
  untouched_sound h j n lo hi q r x a b = go (all_each K (clear w s) h n q)
    where
      d : ℕ
      d = n - suc j

      one : leb n d || not (touches (steps s (n - suc d)) (steps s n)) ≡ true → ⊥
      one z =
          let touched = touches_if (steps s (n - suc d)) (steps s n) x (subst (λ (i : ℕ). writes_byte (steps s i) x ≡ true) at a) b in
          true≢false (sym z ∙ cc (lt-leb n d (omega arith), touched))
        where
          at : j ≡ n - suc d
          at = omega arith

      go : clear w s n ≡ true → ⊥
      go z = one (all_each w (λ d. leb n d || not (touches (steps s (n - suc d)) (steps s n))) (run z) d (omega arith))
        where
          run : is_stopped (steps s n) || all w (λ d. leb n d || not (touches (steps s (n - suc d)) (steps s n))) ≡ true
              → all w (λ d. leb n d || not (touches (steps s (n - suc d)) (steps s n))) ≡ true
          run z = cc

  pub untouched_complete : UntouchedWithin w s K → untouched w s K ≡ true
  unfolding untouched clear
  untouched_complete u = each_all K (clear w s) (λ n q. by n q (is_stopped (steps s n)) refl)
    where
      by : (n : ℕ) → n < K → (b : Bool) → is_stopped (steps s n) ≡ b → clear w s n ≡ true
      by n q true e = cc
      by n q false e =
          cc (each_all w (λ d. leb n d || not (touches (steps s (n - suc d)) (steps s n)))
          (λ d h. one d h (leb n d) (touches (steps s (n - suc d)) (steps s n)) refl refl))
        where
          one : (d : ℕ) → d < w → (x y : Bool) → leb n d ≡ x → touches (steps s (n - suc d)) (steps s n) ≡ y
              → leb n d || not (touches (steps s (n - suc d)) (steps s n)) ≡ true
          one d h true y f z = cc
          one d h false false f z = cc
          one d h false true f z =
              let m = touches_only (steps s (n - suc d)) (steps s n) z in
              let l = leb-false n d f in
              absurd (u (n - suc d) n (omega arith) (omega arith) q e m.0 m.1 m.2)

pub decided : (s : Plain) (K : ℕ) → (asked s K ≡ true) ↔ Premise s K
unfolding asked
decided s K = (λ h o. untouched_sound 3 s K (cc), λ u. go (is_set s.memory.window) refl u)
  where
    go : (b : Bool) → is_set s.memory.window ≡ b → Premise s K → asked s K ≡ true
    go true e u = cc
    go false e u = cc (untouched_complete 3 s K (u e))

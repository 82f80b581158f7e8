-- The place of a byte, and the parts before and behind it. Assumes nothing.
use mathlib.Core.Path.{◌≡◌, refl, ap, sym, ◌∙◌}
use Prim.Native.Nat.{ℕ, ◌+◌, ◌-◌, ◌≤◌, ◌<◌}
use native.Mathlib.Omega.{arith}
use lib.ListN.{length, take, drop, length-drop}
use lib.Seq.{take_all}
use borrow.Author.Tests.{ltb-false}
use lib.Dec.{eqb, ltb}
use mathlib.Core.Bool.{Bool, true, false, cond}
use mathlib.Core.List.{[], ◌∷◌}
use Rattle.std.specs.List.{position, position_or_len}
use Rattle.std.specs.Prelude.{None, Some}
use Rattle.std.specs.Option.{unwrap_or}
use Rattle.std.proofs.lemmas.List.Recursion.{is_position_or_len}
use Rattle.text.specs.Parts.{Text, before, behind}
use Rattle.text.specs.PartsLaws.{before_shorter, before_taken, behind_dropped, behind_none, has_there, has_nowhere}

-- the place of the first c, as `position` finds it
pub place_is : (c : ℕ) (s : Text) → unwrap_or (position (λ x. eqb x c) s) (length s) ≡ length (before c s)
unfolding before
place_is c s = rw (is) (go (ltb (length (before c s)) (length s)) refl)
  where
    step : (x : ℕ) (t : Text) → length (before c (x ∷ t)) ≡ cond (eqb x c) 0 (1 + length (before c t))
    step x t = go (eqb x c)
      where
        go : (b : Bool) → length (cond b [] (x ∷ before c t)) ≡ cond b 0 (1 + length (before c t))
        go true = refl
        go false = omega arith

    is : position_or_len (λ x. eqb x c) s ≡ length (before c s)
    is = sym (is_position_or_len (λ t. length (before c t)) (λ x. eqb x c) refl step s)

    go : (b : Bool) → ltb (length (before c s)) (length s) ≡ b → unwrap_or (cond b (Some (length (before c s))) None) (length s) ≡ length (before c s)
    go true e = refl
    go false e = omega (arith, ltb-false (length (before c s)) (length s) e, before_shorter c s)

-- THE PARTS, where n is the place
module _ (c : ℕ) (t : Text) (n : ℕ) (h : n ≡ length (before c t)) where
  pub within : n ≤ length t
  within = omega (arith, before_shorter c t)

  pub taken : take n t ≡ before c t
  taken = rw h (before_taken c t)

  pub behind_it : n < length t → take (length t - (n + 1)) (drop (n + 1) t) ≡ behind c t
  behind_it lt =
      take_all (length t - (n + 1)) (drop (n + 1) t) (omega (arith, length-drop (n + 1) t))
      ∙ rw h (behind_dropped c t (has_there c t (omega arith)))

  pub behind_nothing : length t ≤ n → [] ≡ behind c t
  behind_nothing q = sym (behind_none c t (has_nowhere c t (omega arith)))

-- the place in what follows a place
pub from_there : (c : ℕ) (t : Text) (at n : ℕ) → at ≤ length t → n ≡ length (before c (take (length t - at) (drop at t)))
    → (at + n ≡ at + length (before c (drop at t))) × (at + n ≤ length t)
from_there c t at n h e =
    let p : n ≡ length (before c (drop at t)) = e ∙ ap (λ (l : Text). length (before c l)) (take_all (length t - at) (drop at t) (omega (
      arith,
      length-drop at t,
    ))) in
    (ap (λ (k : ℕ). at + k) p, omega (arith, before_shorter c (drop at t), length-drop at t))

-- One law for each way out of a function. Assumes nothing.
use mathlib.Core.Path.{◌≡◌, refl, ap, sym, ◌∙◌}
use mathlib.Core.Bool.{Bool, true, false, ◌&&◌}
use mathlib.Core.List.{List, [], ◌∷◌}
use Prim.Native.Nat.{ℕ, ◌≤◌, ◌<◌}
use lib.Dec.{eqb}
use borrow.Author.Tests.{lt-ltb, le-ltb}
use Rattle.std.specs.List.{starts_with}
use Rattle.machine.specs.declared.Accessed.{Accessed}
use Rattle.machine.specs.Types.{is_bad}
use Rattle.machine.specs.Stages.{result_target, loaded_target}
use Rattle.trace.specs.Line.{target_of}
use Rattle.trace.specs.Verdict.{begins}

-- THE TARGET
module _ (w : Accessed) (b : Bool) (tested : b ≡ is_bad w.status) where
  pub stopping : b ≡ true → 15 ≡ target_of w
  unfolding target_of
  stopping h = rw (sym tested ∙ h)

  module _ (runs : b ≡ false) (q : ℕ) (found : q ≡ loaded_target w.instruction) where
    pub loaded : q < 15 → q ≡ target_of w
    unfolding target_of
    loaded l = rw (sym tested ∙ runs, sym found, lt-ltb q 15 l)

    pub computed : 15 ≤ q → (r : ℕ) → r ≡ result_target w.instruction w.holds → r ≡ target_of w
    unfolding target_of
    computed l r e = rw (sym tested ∙ runs, sym found, le-ltb q 15 l) e

-- A TEXT THAT BEGINS WITH A LINE
pub begins_is : (l t : List ℕ) → starts_with eqb t l ≡ begins l t
unfolding begins
begins_is [] t = refl
begins_is (x ∷ l) [] = refl
begins_is (x ∷ l) (y ∷ t) = ap (λ (b : Bool). eqb x y && b) (begins_is l t)

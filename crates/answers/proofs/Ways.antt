-- A budget above 0 and within the limit is refused just where less than the count is left. Assumes nothing.
use mathlib.Core.Path.{◌≡◌, refl}
use mathlib.Core.Bool.{Bool, true, false}
use Prim.Native.Nat.{ℕ, ◌+◌, ◌-◌, ◌≤◌}
use native.Mathlib.Omega.{arith}
use lib.Dec.{ltb}
use borrow.Author.Tests.{ne_eqb, lt-ltb, le-ltb, ltb-true, ltb-false}
use Rattle.machine.specs.Runs.{budget_refused}

pub rest : (l c b : ℕ) → (b ≡ 0 → ⊥) → b ≤ l → ltb (l - b) c ≡ budget_refused l c b
unfolding budget_refused
rest l c b h k = go (ltb (l - b) c) refl
  where
    go : (t : Bool) → ltb (l - b) c ≡ t → ltb (l - b) c ≡ budget_refused l c b
    go true e = cc (ne_eqb b 0 h, lt-ltb l (c + b) (omega (arith, ltb-true (l - b) c e)))
    go false e = cc (ne_eqb b 0 h, le-ltb l (c + b) (omega (arith, ltb-false (l - b) c e)))

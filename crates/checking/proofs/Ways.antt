-- One law for each way out of a function. Assumes nothing.
use Rattle.std.specs.Prelude.{Option, None, Some}
use mathlib.Core.Path.{◌≡◌, refl}
use mathlib.Core.Bool.{Bool, true, false, ◌&&◌}
use mathlib.Core.List.{List}
use Prim.Native.Nat.{ℕ, ◌+◌, ◌≤◌}
use lib.Dec.{ltb}
use lib.ListN.{length}
use borrow.Author.Tests.{le-ltb}
use Rattle.machine.specs.Memory.{lent}
use Rattle.machine.specs.Fetch.{size_at}
use Rattle.checking.specs.declared.stores.Stores.{Stores}
use Rattle.checking.specs.Stores.{hits, touched_by}

-- STORES
module _ (t : Stores) (m : List ℕ) (a : ℕ) where
  none_below : (b c d : Bool) → ltb a (length m) ≡ false → (b && (c && (d && ltb a (length m)))) ≡ false
  none_below false c d h = refl
  none_below true false d h = refl
  none_below true true false h = refl
  none_below true true true h = h

  -- an instruction whose first byte is missing has none
  pub outside : length m ≤ a → false ≡ touched_by t (lent m) a
  unfolding touched_by hits
  outside h = rw (no t.first, no t.second, no t.third)
    where
      no : (s : Option ℕ) → hits s a (a + size_at (lent m) a) (length m) ≡ false
      no None = refl
      no (Some x) = none_below (ltb x (a + size_at (lent m) a)) (ltb a (x + 8)) (ltb x (length m)) (le-ltb a (length m) h)

-- What is kept of the three instructions before one, and that it tells whether one of them wrote into it.
use Rattle.std.specs.Prelude.{Option, None, Some, ℕ, suc, ◌+◌, ◌-◌, Bool, false, cond, not, ◌&&◌, ◌||◌, ltb, leb}
use Rattle.machine.specs.declared.Executed.{Executed}
use Rattle.machine.specs.Types.{Window}
use Rattle.machine.specs.Types.{is_set}
use Rattle.machine.specs.Memory.{Memory, size, inside}
use Rattle.machine.specs.Fetch.{size_at}
use Rattle.machine.specs.Stages.{stores}
use Rattle.machine.specs.Plain.{Plain, executed, steps}
use Rattle.checking.specs.declared.stores.Stores.{Stores}

unfoldable pub store_by : Executed → Memory → Option ℕ
store_by x m = cond (stores x.instruction && inside m x.result) (Some x.result) None

unfoldable pub store_of : Plain → Option ℕ
store_of s = store_by (executed s) s.memory

unfoldable pub no_store : Option ℕ
no_store = None

-- the store of the instruction d + 1 before instruction n + 1, where there is one
unfoldable pub store_before : Plain → (n d : ℕ) → Option ℕ
store_before s n d = cond (leb n d) no_store (store_of (steps s (n - suc d)))

unfoldable pub stores_before : Plain → ℕ → Stores
stores_before s n = record { first = store_before s n 0; second = store_before s n 1; third = store_before s n 2 }

-- a byte of the word stored is one from b up to the end, below n
unfoldable pub hits : Option ℕ → (b end n : ℕ) → Bool
hits None b end n = false
hits (Some a) b end n = ltb a end && (ltb b (a + 8) && (ltb a n && ltb b n))

-- one of the three is
unfoldable pub touched_by : Stores → Memory → ℕ → Bool
touched_by t m b =
    let end = b + size_at m b in
    let n = size m in
    hits t.first b end n || (hits t.second b end n || hits t.third b end n)

unfoldable pub written_by : Window → Stores → Memory → ℕ → Bool
written_by w t m b = not (is_set w) && touched_by t m b

-- What a line takes in, by what the code has at hand. Assumes nothing.
use mathlib.Core.Path.{◌≡◌}
use mathlib.Core.Bool.{Bool, cond, not, ◌&&◌, ◌||◌}
use Prim.Native.Nat.{ℕ, ◌+◌}
use lib.Dec.{leb}
use Rattle.machine.specs.Memory.{Memory}
use Rattle.machine.specs.Fetch.{size_at}
use Rattle.writing.specs.Text.{starts_at, within_end, whole, crosses, line_bytes}

module _ (m : Memory) (a e n : ℕ) (cut x : Bool) (started : x ≡ starts_at m a) (size : n ≡ size_at m a) where
  pub whole_is : not cut && (x && leb (a + n) e) ≡ whole cut m a e
  unfolding whole within_end
  whole_is = cc

  pub bytes_are : (w : Bool) → w ≡ whole cut m a e → cond w n 1 ≡ line_bytes cut m a e
  unfolding line_bytes
  bytes_are w h = cc

  pub crosses_is : cut || (x && not (leb (a + n) e)) ≡ crosses cut m a e
  unfolding crosses within_end
  crosses_is = cc

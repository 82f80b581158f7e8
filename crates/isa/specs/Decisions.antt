-- What the memory stage hands on.
use Rattle.std.specs.Prelude.{ℕ, Bool}
use Rattle.machine.specs.declared.Executed.{Executed}
use Rattle.machine.specs.declared.Accessed.{Accessed}
use Rattle.machine.specs.declared.Status.{Status}

-- an executed instruction after its access, with the word v loaded and the status s; b says that it wrote into the window
unfoldable pub accessed_with : Executed → ℕ → Status → Bool → Accessed
accessed_with x v s b = record { instruction = x.instruction; result = x.result; holds = x.holds; word = v; status = s; patched = b }

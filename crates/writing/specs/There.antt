-- The instruction that the bytes at an address say, whether or not it halts: what a line shows of the one that is fetched there.
use Rattle.std.specs.Prelude.{ℕ, ◌/◌}
use Rattle.machine.specs.declared.Instruction.{Instruction}
use Rattle.machine.specs.Memory.{Memory}
use Rattle.published.specs.Fetching.{M₁, aok_at}

abbrev pub there_at : Memory → ℕ → Instruction
there_at m a = aok_at m a (M₁ m a / 16)

-- A test on the plain history that is to be true exactly when the premise holds.
use Prim.Native.Nat.{ℕ, zero, suc, ◌+◌, ◌-◌, ◌≤◌, ◌<◌}
use Rattle.std.specs.Prelude.{Bool, ◌&&◌, ◌||◌, ◌≡◌}
use Rattle.std.proofs.Math.Bool.{true, false, not}
use Rattle.std.proofs.Math.Dec.{ltb, leb}
use Rattle.machine.specs.Types.{is_set}
use Rattle.machine.specs.Memory.{code_end, inside}
use Rattle.machine.specs.Fetch.{size_at}
use Rattle.machine.specs.Stages.{stores, access_address}
use Rattle.machine.specs.Plain.{Plain, is_stopped, fetched, executed, steps}
use Rattle.clocked.specs.Premise.{writes_byte, has_byte}

-- the premise with w instructions in place of three
abbrev pub UntouchedWithin : ℕ → Plain → ℕ → Type 0
UntouchedWithin w s K =
    (j n : ℕ) → j < n → n ≤ j + w → n < K → is_stopped (steps s n) ≡ false
    → (x : ℕ) → writes_byte (steps s j) x ≡ true → has_byte (steps s n) x ≡ true → ⊥

-- ONE STORE AND ONE INSTRUCTION: the two ranges of bytes meet within memory
unfoldable pub touches : Plain → Plain → Bool
touches s t =
    let a = access_address (executed s) in
    let b = t.machine.address in
    let n = code_end t.memory b in
    stores (fetched s) && (inside s.memory a && (ltb a (b + size_at t.memory b) && (ltb b (a + 8) && (ltb a n && ltb b n))))

-- ALL OF THEM
unfoldable pub all : ℕ → (ℕ → Bool) → Bool
all zero f = true
all (suc n) f = f n && all n f

-- instruction n + 1 is not performed, or none of the w before it touches it
unfoldable pub clear : ℕ → Plain → ℕ → Bool
clear w s n = is_stopped (steps s n) || all w (λ d. leb n d || not (touches (steps s (n - suc d)) (steps s n)))

unfoldable pub untouched : ℕ → Plain → ℕ → Bool
untouched w s K = all K (clear w s)

-- the premise as demand 3 has it: with a window set, nothing is asked
unfoldable pub asked : Plain → ℕ → Bool
asked s K = is_set s.memory.window || untouched 3 s K

-- Demand 3's premise.
use Rattle.std.specs.Prelude.{ℕ, ◌+◌, ◌≤◌, ◌<◌, Bool, true, false, ◌&&◌, ◌≡◌, ltb, leb}
use Rattle.machine.specs.Types.{is_set}
use Rattle.machine.specs.Memory.{code_end, inside}
use Rattle.machine.specs.Fetch.{size_at}
use Rattle.machine.specs.Stages.{stores, access_address}
use Rattle.machine.specs.Plain.{Plain, is_stopped, fetched, executed, steps}

-- the instruction performed at s writes the byte at x, the same value or another
unfoldable pub writes_byte : Plain → ℕ → Bool
writes_byte s x =
    let a = access_address (executed s) in
    stores (fetched s) && (inside s.memory a && (leb a x && ltb x (a + 8)))

-- the byte at x is one of the bytes of the instruction performed at s: "its table length from its address, cut at N"
unfoldable pub has_byte : Plain → ℕ → Bool
has_byte s x =
    let a = s.machine.address in
    leb a x && (ltb x (a + size_at s.memory a) && ltb x (code_end s.memory a))

-- demand 3: "no store writes a byte of any of the next three instructions the plain engine performs", among its first K
abbrev pub Untouched : Plain → ℕ → Type 0
Untouched s K =
    (j n : ℕ) → j < n → n ≤ j + 3 → n < K → is_stopped (steps s n) ≡ false
    → (x : ℕ) → writes_byte (steps s j) x ≡ true → has_byte (steps s n) x ≡ true → ⊥

-- what demand 3 asks of a start: "With a window set, demand 3 and #108 hold with no premise on stores. Without one, all stays." (02, #113)
abbrev pub Premise : Plain → ℕ → Type 0
Premise s K = is_set s.memory.window ≡ false → Untouched s K

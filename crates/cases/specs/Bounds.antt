-- P7, for every N of at least 8.
use Rattle.std.specs.Prelude.{◌+◌, ◌-◌, ◌^◌, ◌≤◌, ◌≡◌, true, false, ◌||◌}
use Rattle.std.proofs.Common.{arith, lt-ltb, le-ltb}
use Rattle.machine.specs.Memory.{Memory, size, inside}
use Rattle.machine.specs.Stages.{loads, stores, access_address, access_status}
use Rattle.cases.specs.Names.{Executed, adr}

-- an access whose word is inside leaves the status as it was, and any other makes it ADR
within : (m : Memory) (x : Executed) → loads x.instruction || stores x.instruction ≡ true → inside m (access_address x) ≡ true
    → access_status x m ≡ x.instruction.status
unfolding access_status
within m x h e = rw (h, e)

beyond : (m : Memory) (x : Executed) → loads x.instruction || stores x.instruction ≡ true → inside m (access_address x) ≡ false → access_status x m ≡ adr
unfolding access_status
beyond m x h e = rw (h, e)

-- "P7 (N at least 8) word at N-8 inside, at N-7 and 2^64-1 ADR", of any access by either engine; N is far below 2^64
pub p7 : (m : Memory) (x : Executed) → 8 ≤ size m → size m ≤ 2 ^ 64 → loads x.instruction || stores x.instruction ≡ true
    → (access_address x ≡ size m - 8 → access_status x m ≡ x.instruction.status)
    × (access_address x ≡ size m - 7 → access_status x m ≡ adr)
    × (access_address x ≡ 2 ^ 64 - 1 → access_status x m ≡ adr)
unfolding inside
p7 m x low high h =
    let a = access_address x + 7 in
    let n = size m in
    (λ e. within m x h (lt-ltb a n (omega arith)), λ e. beyond m x h (le-ltb a n (omega arith)), λ e. beyond m x h (le-ltb a n (omega arith)))

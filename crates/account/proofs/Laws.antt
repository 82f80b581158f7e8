-- What the control proof uses of the instruction set and of the plain step. A new instruction, or another row of the table, has to keep these.
-- What it uses of the register file alone, a write and what is read after it, is laws' Registers.
use Rattle.std.specs.Prelude.{ℕ, zero, suc, ◌+◌, ◌≤◌, Bool, cond, ◌&&◌, ◌||◌, [], ◌∷◌, ◌++◌, ◌≡◌, T, length}
use Rattle.std.proofs.Math.Bool.{true, false, not}
use Rattle.std.specs.Bool.{beq}
use Rattle.std.proofs.Common.{true≢false, ◌∙◌}
use Rattle.std.proofs.Math.Path.{refl, ap, sym}
use native.Mathlib.Omega.{arith}
use borrow.Author.Tests.{eqb-true}
use Rattle.std.proofs.Math.Dec.{eqb}
use Rattle.account.specs.Names.{Status, hlt, adr, ins, Option, Fault, no_fault, faulty, first_missing, later_missing, no_register}
use Rattle.account.specs.Names.{Codes, Instruction, Decoded, Executed, Retired, in_m, in_w}
use Rattle.account.specs.Names.{Option, Reason, free, because, waited, wrongly_guessed, returned, patched}
use Rattle.machine.specs.Types.{is_bad}
use Rattle.machine.specs.Memory.{Memory, inside, store}
use Rattle.machine.specs.Table.{Row, Sets, no_codes, by_op, by_sum, row_of, table, is, cmov, jump, ret, Which, none, r_a, r_b, rsp}
use Rattle.machine.specs.Fetch.{fetch, parsed, checked, not_in_table, stopping}
use Rattle.machine.specs.Stages.{register, decode, execute, access, outcome, condition, loads, stores, loading, storing, access_address, patches}
use Rattle.machine.specs.Stages.{access_status, codes_by, new_codes, new_memory, new_registers, loaded_target, source_b, turned, straight, next_address}
use Rattle.machine.specs.Plain.{Plain, is_stopped, fetched, decoded, executed, accessed, performed, stopped_by, step, steps}
use Rattle.clocked.specs.Prediction.{Core, guess, predicted_next, mispredicted, meets, awaited_a, load_use}
use Rattle.clocked.specs.Charges.{reason_behind, retired_of, amount, reason_of, charge, charges, due}
use Rattle.clocked.specs.Pipeline.{past_result, past_both}
use Rattle.clocked.specs.Premise.{writes_byte}
use Rattle.published.specs.Lengths.{every_row}
use Rattle.clock_laws.specs.Registers.{meets_none, length_written}
use Rattle.laws.specs.Tests.{neither}
use Rattle.account.specs.Seen.{waiting, wait}

-- 1 or 0
unfoldable pub bit : Bool → ℕ
bit true = 1
bit false = 0

pub or_true : (b : Bool) → b || true ≡ true
or_true true = refl
or_true false = refl

pub falsely : (b : Bool) → (b ≡ true → ⊥) → b ≡ false
falsely true k = absurd (k refl)
falsely false k = refl

-- FETCH
-- the fetched instruction carries its address, and one with a bad status is a nop
record Fetched (a : ℕ) (i : Instruction) : Type 0 where
  here : i.address ≡ a
  nop : is_bad i.status ≡ true → i.code ≡ 1

-- what holds of every stopping instruction, and of the one read where code and function are in the table, holds of the checked one
pub checked_any : (P : Instruction → Type 0) (f n l r h : Bool) (i : Instruction) → ((x : Status) (y : Option Fault) → P (stopping i.address x y)) → (n ≡ false → P i)
    → P (checked f n l r h i)
unfolding checked
checked_any P true n l r h i s k = s adr (faulty first_missing)
checked_any P false true l r h i s k = s ins (not_in_table i.code)
checked_any P false false true r h i s k = s adr (faulty later_missing)
checked_any P false false false true h i s k = s ins (faulty no_register)
checked_any P false false false false true i s k = s hlt no_fault
checked_any P false false false false false i s k = k refl

fetched_as_lem : (s : Plain) → Fetched s.machine.address (fetched s)
unfolding fetched fetch parsed stopping is_bad
fetched_as_lem s =
    checked_any (Fetched s.machine.address) _ _ _ _ _ _ (λ x y. record { here = refl; nop = λ h. refl })
    (λ n. record { here = refl; nop = λ h. absurd (true≢false (sym h)) })

pub fetched_address : (s : Plain) → (fetched s).address ≡ s.machine.address
fetched_address s = (fetched_as_lem s).here

-- the instruction as it travels
pub in_decoded : (s : Plain) → (decoded s).instruction ≡ fetched s
unfolding decoded decode
in_decoded s = refl

pub in_executed : (s : Plain) → (executed s).instruction ≡ fetched s
unfolding executed execute decoded decode
in_executed s = refl

pub in_accessed : (s : Plain) → (accessed s).instruction ≡ fetched s
unfolding accessed access executed execute decoded decode
in_accessed s = refl

-- STOPPING
nop_stores : (i : Instruction) → i.code ≡ 1 → stores i ≡ false
unfolding stores storing row_of table
nop_stores i h = rw h

setting : Sets → Bool
setting no_codes = false
setting by_op = true
setting by_sum = true

nop_sets : (i : Instruction) → i.code ≡ 1 → setting (row_of i.code).sets ≡ false
unfolding setting row_of table
nop_sets i h = rw h

none_set : (k : Sets) (x : Decoded) (c : Codes) → setting k ≡ false → codes_by k x c ≡ c
unfolding setting codes_by
none_set no_codes x c h = refl
none_set by_op x c h = cc
none_set by_sum x c h = cc

-- what sets codes accesses nothing
abbrev apart : Row → Bool
apart row = not (setting row.sets && (loading row.accesses || storing row.accesses))

not_both : (a b : Bool) → T (not (a && b)) → a ≡ true → b ≡ false
not_both true true t e = absurd t
not_both true false t e = refl
not_both false b t e = cc

sets_loads : (i : Instruction) → setting (row_of i.code).sets ≡ true → (loads i ≡ false) × (stores i ≡ false)
unfolding setting loads stores loading storing table
sets_loads i h = neither _ _ (not_both _ _ (every_row apart tt tt i.code) h)

-- a stopping instruction stores nothing and sets no codes
quiet_memory : (s : Plain) → is_bad (accessed s).status ≡ true → new_memory (executed s) s.memory ≡ s.memory
unfolding accessed access access_status new_memory store
quiet_memory s h = go (stores (executed s).instruction) (inside s.memory (access_address (executed s))) refl refl
  where
    go : (b c : Bool) → stores (executed s).instruction ≡ b → inside s.memory (access_address (executed s)) ≡ c
        → new_memory (executed s) s.memory ≡ s.memory
    go false c e f = cc
    go true false e f = cc
    go true true e f =
        let k : is_bad (fetched s).status ≡ true = cc (in_executed s, or_true (loads (executed s).instruction)) in
        cc (in_executed s, nop_stores (fetched s) ((fetched_as_lem s).nop k))

quiet_codes : (s : Plain) → is_bad (accessed s).status ≡ true → new_codes (decoded s) s.machine.codes ≡ s.machine.codes
unfolding accessed access access_status new_codes
quiet_codes s h = go (setting (row_of (fetched s).code).sets) refl
  where
    go : (b : Bool) → setting (row_of (fetched s).code).sets ≡ b → new_codes (decoded s) s.machine.codes ≡ s.machine.codes
    go false e = none_set _ (decoded s) _ (cc (in_decoded s))
    go true e =
        let n = sets_loads (fetched s) e in
        let k : is_bad (fetched s).status ≡ true = cc (in_executed s, n.0, n.1) in
        cc (nop_sets (fetched s) ((fetched_as_lem s).nop k))

-- STORES load no register, by one test computed over the table
unfoldable is_none : Which → Bool
is_none none = true
is_none r_a = false
is_none r_b = false
is_none rsp = false

none_15 : (w : Which) (i : Instruction) → T (is_none w) → register w i ≡ 15
unfolding is_none register
none_15 none i t = refl
none_15 r_a i t = absurd t
none_15 r_b i t = absurd t
none_15 rsp i t = absurd t

store_loads : (i : Instruction) → stores i ≡ true → loaded_target i ≡ 15
unfolding stores loaded_target table storing is_none
store_loads i h =
    none_15 (row_of i.code).loaded i
    (go (stores i) (is_none (row_of i.code).loaded) h (every_row (λ row. not (storing row.accesses) || is_none row.loaded) tt tt i.code))
  where
    go : (a b : Bool) → a ≡ true → T (not a || b) → T b
    go true b h t = t
    go false b h t = absurd (true≢false (sym h))

-- JUMPS, RETURNS AND STORES load no register, and none is another
data Kind (i : Instruction) : Type 0 where
  a_jump : is jump i ≡ true → is ret i ≡ false → stores i ≡ false → loaded_target i ≡ 15 → Kind i
  a_return : is jump i ≡ false → is ret i ≡ true → stores i ≡ false → loaded_target i ≡ 15 → Kind i
  a_store : is jump i ≡ false → is ret i ≡ false → stores i ≡ true → loaded_target i ≡ 15 → Kind i
  another : is jump i ≡ false → is ret i ≡ false → stores i ≡ false → Kind i

kind : (i : Instruction) → Kind i
unfolding is stores storing loaded_target register row_of table
kind i = go (is jump i) (is ret i) (stores i) refl refl refl
  where
    go : (a b c : Bool) → is jump i ≡ a → is ret i ≡ b → stores i ≡ c → Kind i
    go true b c p q s = let k = eqb-true i.code 7 p in a_jump p (rw k) (rw k) (rw k)
    go false true c p q s = let k = eqb-true i.code 9 q in a_return p q (rw k) (rw k)
    go false false true p q s = a_store p q s (store_loads i s)
    go false false false p q s = another p q s

ret_stores : (i : Instruction) → is ret i ≡ true → stores i ≡ false
ret_stores i h = go (kind i)
  where
    go : Kind i → stores i ≡ false
    go (a_jump a b c d) = c
    go (a_return a b c d) = c
    go (a_store a b c d) = absurd (true≢false (sym h ∙ b))
    go (another a b c) = c

load_use_none : (g : Core) (i j : Instruction) → loaded_target i ≡ 15 → load_use g i j ≡ false
unfolding load_use
load_use_none g i j e = cc (meets_none (awaited_a g j), meets_none (source_b j))

-- THE RULE: the unconditional jump is guessed to go to C
guess_always : (g : Core) (i : Instruction) → eqb i.function 0 ≡ true → guess g i ≡ true
unfolding guess
guess_always g i h = rw h

beq_same : (a b : Bool) → not (beq a b) ≡ false → a ≡ b
beq_same true true h = refl
beq_same true false h = cc
beq_same false true h = cc
beq_same false false h = refl

-- the instruction performed at s is a jump that is guessed wrongly
unfoldable pub wrong_at : Core → Plain → Bool
wrong_at g s = mispredicted g (executed s).instruction (executed s).holds

-- ... is a store that succeeds and writes into the window
unfoldable pub patches_at : Plain → Bool
patches_at s = (accessed s).patched

pub patches_stores : (x : Executed) (m : Memory) → patches x m ≡ true → stores x.instruction ≡ true
unfolding patches
patches_stores x m h = go (stores x.instruction) refl
  where
    go : (b : Bool) → stores x.instruction ≡ b → stores x.instruction ≡ true
    go true e = e
    go false e = cc

pub stores_at : (s : Plain) → patches_at s ≡ true → stores (fetched s) ≡ true
unfolding patches_at accessed access
stores_at s h = sym (ap stores (in_executed s)) ∙ patches_stores (executed s) s.memory h

-- what writes a byte is no jump, and so not guessed wrongly
pub writes_right : (g : Core) (s : Plain) (x : ℕ) → writes_byte s x ≡ true → wrong_at g s ≡ false
unfolding writes_byte wrong_at mispredicted
writes_right g s x h = go (kind (fetched s))
  where
    go : Kind (fetched s) → wrong_at g s ≡ false
    go (a_jump a b c d) = absurd (true≢false (cc))
    go (a_return a b c d) = cc (in_executed s)
    go (a_store a b c d) = cc (in_executed s)
    go (another a b c) = cc (in_executed s)

-- a store inside memory succeeds
pub store_succeeds : (s : Plain) → stores (fetched s) ≡ true → inside s.memory (access_address (executed s)) ≡ true → is_bad (accessed s).status ≡ false
unfolding accessed access access_status
store_succeeds s w i = go (is_bad (fetched s).status) refl
  where
    go : (b : Bool) → is_bad (fetched s).status ≡ b → is_bad (accessed s).status ≡ false
    go true e = absurd (true≢false (sym w ∙ nop_stores (fetched s) ((fetched_as_lem s).nop e)))
    go false e = cc (in_executed s, or_true (loads (fetched s)))

-- THE PLAIN STEP, where it is not stopped
module _ (s : Plain) (r : is_stopped s ≡ false) where
  step_by : (b : Bool) → is_bad (accessed s).status ≡ b → step s ≡ cond b (stopped_by s (accessed s).status) (performed s)
  unfolding step
  step_by b e = cc

  pub step_stops : is_stopped (step s) ≡ is_bad (accessed s).status
  unfolding is_stopped stopped_by performed is_bad
  step_stops = go (is_bad (accessed s).status) refl
    where
      go : (b : Bool) → is_bad (accessed s).status ≡ b → is_stopped (step s) ≡ is_bad (accessed s).status
      go true e = cc (step_by true e)
      go false e = cc (step_by false e)

  pub step_memory : (step s).memory ≡ new_memory (executed s) s.memory
  unfolding stopped_by performed
  step_memory = go (is_bad (accessed s).status) refl
    where
      go : (b : Bool) → is_bad (accessed s).status ≡ b → (step s).memory ≡ new_memory (executed s) s.memory
      go true e = ap (λ x. x.memory) (step_by true e) ∙ sym (quiet_memory s e)
      go false e = ap (λ x. x.memory) (step_by false e)

  pub step_codes : (step s).machine.codes ≡ new_codes (decoded s) s.machine.codes
  unfolding stopped_by performed
  step_codes = go (is_bad (accessed s).status) refl
    where
      go : (b : Bool) → is_bad (accessed s).status ≡ b → (step s).machine.codes ≡ new_codes (decoded s) s.machine.codes
      go true e = ap (λ x. x.machine.codes) (step_by true e) ∙ sym (quiet_codes s e)
      go false e = ap (λ x. x.machine.codes) (step_by false e)

  -- what a stopping instruction counts and logs, any other counts and logs too
  pub record Logs : Type 0 where
    pub log : (step s).log ≡ s.log ++ s.machine.address ∷ []
    pub last : (step s).machine.last ≡ s.machine.address
    pub count : (step s).machine.count ≡ s.machine.count + 1

  pub step_logs : Logs
  unfolding stopped_by performed
  step_logs = go (is_bad (accessed s).status) refl
    where
      go : (b : Bool) → is_bad (accessed s).status ≡ b → Logs
      go true e =
          let k = step_by true e in
          record { log = ap (λ x. x.log) k; last = ap (λ x. x.machine.last) k; count = ap (λ x. x.machine.count) k }
      go false e =
          let k = step_by false e in
          record { log = ap (λ x. x.log) k; last = ap (λ x. x.machine.last) k; count = ap (λ x. x.machine.count) k }

  pub step_stopped : is_bad (accessed s).status ≡ true → step s ≡ stopped_by s (accessed s).status
  step_stopped e = step_by true e

  module _ (r' : is_stopped (step s) ≡ false) where
    goes : step s ≡ performed s
    goes = step_by false (sym step_stops ∙ r')

    pub step_registers : (step s).machine.registers ≡ new_registers (accessed s) s.machine.registers
    unfolding performed
    step_registers = ap (λ x. x.machine.registers) goes

    pub step_blame : (step s).machine.blame ≡ s.machine.blame
    unfolding performed
    step_blame = ap (λ x. x.machine.blame) goes

    address_next : (step s).machine.address
        ≡ cond (is ret (fetched s)) (accessed s).word
        (cond (is jump (fetched s)) (turned (executed s).instruction (executed s).holds) (straight (executed s).instruction))
    unfolding performed accessed access executed execute decoded decode next_address
    address_next = ap (λ x. x.machine.address) goes

    pub address_returned : is ret (fetched s) ≡ true → (step s).machine.address ≡ (accessed s).word
    address_returned t = cc address_next

    pub address_patched : patches_at s ≡ true → (step s).machine.address ≡ straight (executed s).instruction
    address_patched m = go (kind (fetched s))
      where
        go : Kind (fetched s) → (step s).machine.address ≡ straight (executed s).instruction
        go (a_jump a b c d) = absurd (true≢false (sym (stores_at s m) ∙ c))
        go (a_return a b c d) = absurd (true≢false (sym (stores_at s m) ∙ c))
        go (a_store a b c d) = cc address_next
        go (another a b c) = absurd (true≢false (sym (stores_at s m) ∙ c))

    module _ (g : Core) where
      pub address_predicted : wrong_at g s ≡ false → is ret (fetched s) ≡ false → (step s).machine.address ≡ predicted_next g (fetched s)
      unfolding wrong_at mispredicted predicted_next
      address_predicted m t = go (is jump (fetched s)) refl
        where
          go : (b : Bool) → is jump (fetched s) ≡ b → (step s).machine.address ≡ predicted_next g (fetched s)
          go false e = cc (address_next, in_executed s)
          go true e =
              let k : not (beq (executed s).holds (guess g (fetched s))) ≡ false = cc (in_executed s) in
              cc (address_next, in_executed s, beq_same (executed s).holds (guess g (fetched s)) k)

      pub address_mended : wrong_at g s ≡ true → (step s).machine.address ≡ turned (executed s).instruction (executed s).holds
      unfolding wrong_at mispredicted
      address_mended m = go (kind (fetched s))
        where
          go : Kind (fetched s) → (step s).machine.address ≡ turned (executed s).instruction (executed s).holds
          go (a_jump a b c d) = cc address_next
          go (a_return a b c d) = cc (in_executed s)
          go (a_store a b c d) = cc (in_executed s)
          go (another a b c) = cc (in_executed s)

pub stopped_before : (s : Plain) → is_stopped (step s) ≡ false → is_stopped s ≡ false
unfolding step
stopped_before s h = go (is_stopped s) refl
  where
    go : (b : Bool) → is_stopped s ≡ b → is_stopped s ≡ false
    go true e = cc
    go false e = e

-- REGISTERS
-- a step keeps their number: fifteen throughout
length_step : (s : Plain) → length (step s).machine.registers ≡ length s.machine.registers
unfolding step performed stopped_by new_registers
length_step s = go (is_stopped s) (is_bad (accessed s).status)
  where
    go : (b c : Bool) → length (cond b s (cond c (stopped_by s (accessed s).status) (performed s))).machine.registers ≡ length s.machine.registers
    go true c = refl
    go false true = refl
    go false false = length_written _ _ _ ∙ length_written _ _ _

pub length_steps : (s : Plain) → length s.machine.registers ≡ 15 → (n : ℕ) → length (steps s n).machine.registers ≡ 15
unfolding steps
length_steps s h zero = h
length_steps s h (suc n) = length_step (steps s n) ∙ length_steps s h n

-- where no word is loaded, past the result is past both
pub past_unloaded : (s : Plain) (q v : ℕ) → meets (loaded_target (decoded s).instruction) q ≡ false
    → past_both (in_w (accessed s)) q v ≡ past_result (in_m (executed s)) q v
unfolding past_both past_result accessed access executed execute
past_unloaded s q v h = cc

-- CHARGES
-- behind an instruction as it retired: a jump guessed wrongly is charged 2, for it has a condition; a return 3, and so is a store
-- into the window; behind any other one waits for a load
module _ (g : Core) (k : Retired) where
  pub wrong_stays : mispredicted g k.instruction k.holds ≡ true → (is ret k.instruction ≡ false) × (stores k.instruction ≡ false)
  unfolding mispredicted
  wrong_stays m = go (kind k.instruction)
    where
      go : Kind k.instruction → (is ret k.instruction ≡ false) × (stores k.instruction ≡ false)
      go (a_jump a b c d) = (b, c)
      go (a_return a b c d) = (cc, cc)
      go (a_store a b c d) = (cc, cc)
      go (another a b c) = (b, c)

  module _ (j : Instruction) where
    pub behind_wrong : k.patched ≡ false → mispredicted g k.instruction k.holds ≡ true → eqb k.instruction.function 0 ≡ false
        → amount (reason_behind g k j) ≡ 2
    unfolding mispredicted reason_behind amount
    behind_wrong z m f = go (kind k.instruction)
      where
        go : Kind k.instruction → amount (reason_behind g k j) ≡ 2
        go (a_jump a b c d) = cc (load_use_none g k.instruction j d)
        go (a_return a b c d) = cc
        go (a_store a b c d) = cc
        go (another a b c) = cc

    pub behind_return : k.patched ≡ false → is ret k.instruction ≡ true → amount (reason_behind g k j) ≡ 3
    unfolding mispredicted reason_behind amount
    behind_return z m = go (kind k.instruction)
      where
        go : Kind k.instruction → amount (reason_behind g k j) ≡ 3
        go (a_jump a b c d) = cc
        go (a_return a b c d) = cc (load_use_none g k.instruction j d)
        go (a_store a b c d) = cc
        go (another a b c) = cc

    pub behind_patched : k.patched ≡ true → amount (reason_behind g k j) ≡ 3
    unfolding reason_behind amount
    behind_patched z = cc

    pub behind_other : k.patched ≡ false → mispredicted g k.instruction k.holds ≡ false → is ret k.instruction ≡ false
        → amount (reason_behind g k j) ≡ bit (load_use g k.instruction j)
    unfolding reason_behind amount bit
    behind_other z m t = go (load_use g k.instruction j) refl
      where
        go : (b : Bool) → load_use g k.instruction j ≡ b → amount (reason_behind g k j) ≡ bit (load_use g k.instruction j)
        go true e = cc
        go false e = cc

    -- but for a store into the window, one waits for the load of whatever it is behind
    pub behind_wait : k.patched ≡ false → waiting (reason_behind g k j) ≡ bit (load_use g k.instruction j)
    unfolding reason_behind waiting bit
    behind_wait z = rw z (go (load_use g k.instruction j) (mispredicted g k.instruction k.holds && not (eqb k.instruction.function 0)) (is ret k.instruction))
      where
        go : (a b c : Bool) → waiting (cond a (because waited) (cond b (because wrongly_guessed) (cond c (because returned) free))) ≡ bit a
        go true b c = refl
        go false true c = refl
        go false false true = refl
        go false false false = refl

-- one that waits is charged for that alone
pub waiting_less : (r : Option Reason) → waiting r ≤ amount r
unfolding waiting amount
waiting_less free = omega arith
waiting_less (because waited) = omega arith
waiting_less (because wrongly_guessed) = omega arith
waiting_less (because returned) = omega arith
waiting_less (because patched) = omega arith

waiting_only : (r : Option Reason) → 2 ≤ amount r → waiting r ≡ 0
unfolding waiting amount
waiting_only free h = absurd (omega arith)
waiting_only (because waited) h = absurd (omega arith)
waiting_only (because wrongly_guessed) h = refl
waiting_only (because returned) h = refl
waiting_only (because patched) h = refl

-- an unconditional jump is never guessed wrongly
module _ (g : Core) (x : Decoded) (c : Codes) where
  always_holds : is jump x.instruction ≡ true → eqb x.instruction.function 0 ≡ true → (execute x c).holds ≡ true
  unfolding execute outcome condition
  always_holds f e =
      let k = eqb-true x.instruction.function 0 e in
      cc (or_true (is cmov x.instruction))

  pub conditional : mispredicted g x.instruction (execute x c).holds ≡ true → eqb x.instruction.function 0 ≡ false
  unfolding mispredicted
  conditional m = go (eqb x.instruction.function 0) (is jump x.instruction) refl refl
    where
      go : (b j : Bool) → eqb x.instruction.function 0 ≡ b → is jump x.instruction ≡ j → eqb x.instruction.function 0 ≡ false
      go false j e f = e
      go true false e f = absurd (true≢false (sym m ∙ cc))
      go true true e f = absurd (true≢false (sym m ∙ cc (always_holds f e, guess_always g x.instruction e)))

-- the same of the plain history: the instruction after n others is charged by its predecessor
module _ (g : Core) (s : Plain) (n : ℕ) where
  pub due_next : due g s (suc (suc n)) ≡ due g s (suc n) + 1 + charge g s (suc (suc n))
  unfolding due charges
  due_next = omega arith

  predecessor : Retired
  predecessor = retired_of (accessed (steps s n))

  charged : charge g s (suc (suc n)) ≡ amount (reason_behind g predecessor (fetched (steps s (suc n))))
  unfolding charge reason_of predecessor
  charged = refl

  wrong_is : mispredicted g predecessor.instruction predecessor.holds ≡ wrong_at g (steps s n)
  unfolding predecessor retired_of wrong_at accessed access
  wrong_is = refl

  ret_is : is ret predecessor.instruction ≡ is ret (fetched (steps s n))
  unfolding predecessor retired_of
  ret_is = ap (is ret) (in_accessed (steps s n))

  patched_is : predecessor.patched ≡ patches_at (steps s n)
  unfolding predecessor retired_of patches_at
  patched_is = refl

  stores_is : stores predecessor.instruction ≡ stores (fetched (steps s n))
  unfolding predecessor retired_of
  stores_is = ap stores (in_accessed (steps s n))

  -- what stores nothing does not patch
  unstored : stores (fetched (steps s n)) ≡ false → patches_at (steps s n) ≡ false
  unstored h = falsely (patches_at (steps s n)) (λ z. true≢false (sym (stores_at (steps s n) z) ∙ h))

  pub charge_wrong : wrong_at g (steps s n) ≡ true → (is ret (fetched (steps s n)) ≡ false) × (patches_at (steps s n) ≡ false) × (charge g s (suc (suc n)) ≡ 2)
  unfolding predecessor retired_of wrong_at accessed access executed execute
  charge_wrong m =
      let k = wrong_stays g predecessor m in
      let z = unstored (sym stores_is ∙ k.1) in (
        sym ret_is ∙ k.0,
        z,
        charged ∙ behind_wrong g predecessor (fetched (steps s (suc n))) (patched_is ∙ z) m (conditional g (decoded (steps s n)) (steps s n).machine.codes m),
      )

  pub charge_returned : is ret (fetched (steps s n)) ≡ true → charge g s (suc (suc n)) ≡ 3
  charge_returned m =
      charged ∙ behind_return g predecessor (fetched (steps s (suc n))) (patched_is ∙ unstored (ret_stores (fetched (steps s n)) m)) (ret_is ∙ m)

  pub charge_patched : patches_at (steps s n) ≡ true → (is ret (fetched (steps s n)) ≡ false) × (charge g s (suc (suc n)) ≡ 3)
  charge_patched m = (
    falsely (is ret (fetched (steps s n))) (λ z. true≢false (sym m ∙ unstored (ret_stores (fetched (steps s n)) z))),
    charged ∙ behind_patched g predecessor (fetched (steps s (suc n))) (patched_is ∙ m),
  )

  pub charge_straight : wrong_at g (steps s n) ≡ false → is ret (fetched (steps s n)) ≡ false → patches_at (steps s n) ≡ false
      → charge g s (suc (suc n)) ≡ bit (load_use g (fetched (steps s n)) (fetched (steps s (suc n))))
  unfolding predecessor retired_of
  charge_straight m t z =
      charged ∙ (behind_other g predecessor (fetched (steps s (suc n))) (patched_is ∙ z) (wrong_is ∙ m) (ret_is ∙ t)
      ∙ ap (λ (i : Instruction). bit (load_use g i (fetched (steps s (suc n))))) (in_accessed (steps s n)))

  pub wait_behind : patches_at (steps s n) ≡ false → wait g s (suc (suc n)) ≡ bit (load_use g (fetched (steps s n)) (fetched (steps s (suc n))))
  unfolding wait reason_of predecessor retired_of
  wait_behind z =
      behind_wait g predecessor (fetched (steps s (suc n))) (patched_is ∙ z)
      ∙ ap (λ (i : Instruction). bit (load_use g i (fetched (steps s (suc n))))) (in_accessed (steps s n))

  pub wait_none : 2 ≤ charge g s (suc (suc n)) → wait g s (suc (suc n)) ≡ 0
  unfolding wait charge
  wait_none h = waiting_only (reason_of g s (suc (suc n))) h

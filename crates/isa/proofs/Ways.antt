-- One law for each way out of a function, over variables for what its callees gave. Assumes nothing.
use mathlib.Core.Path.{◌≡◌, refl, sym, ap}
use mathlib.Core.Bool.{Bool, true, false, cond, not, ◌&&◌, ◌||◌, beq}
use mathlib.Core.List.{List, [], ◌∷◌}
use mathlib.Core.Logic.{◌⊎◌, inl, inr}
use Prim.Native.Nat.{ℕ, zero, suc, ◌+◌, ◌≤◌}
use native.Mathlib.Omega.{arith}
use lib.Bits.{bit_and, bit_xor}
use lib.Dec.{ltb, eqb}
use lib.ListN.{get_or, length, get_or-eq_default}
use lib.IntN.{pos, ◌+ℤ◌, ◌-ℤ◌}
use mir.Syntax.{w64}
use lib.Signed.{lt_z}
use borrow.Author.Tests.{eq-eqb, ne_eqb}
use Rattle.machine.specs.declared.Status.{Status}
use Rattle.machine.specs.declared.Status.TheVariants.{Adr as adr}
use Rattle.machine.specs.Types.{Window}
use Rattle.machine.specs.Types.{no_window, within}
use Rattle.machine.specs.declared.Codes.{Codes}
use Rattle.machine.specs.declared.Instruction.{Instruction}
use Rattle.machine.specs.declared.Decoded.{Decoded}
use Rattle.machine.specs.declared.Executed.{Executed}
use Rattle.machine.specs.declared.Accessed.{Accessed}
use Rattle.machine.specs.Types.{is_bad}
use Rattle.machine.specs.Words.{sum, difference, signed, outside}
use Rattle.machine.specs.Memory.{Memory, through, inside, load, store}
use Rattle.machine.specs.Table.{row_of, table, is}
use Rattle.machine.specs.Stages.{register, result_target}
use Rattle.machine.specs.Stages.{operated, overflows, operated_codes, codes_by, new_codes, condition, result, outcome, execute}
use Rattle.machine.specs.Stages.{loading, storing, addressed, stored, loads, stores, access_address, stored_word, access_status, meets_window, patches, access, new_memory, turned, straight, next_address}
use Rattle.laws.specs.Window.{written_through}
use Rattle.lookup.specs.declared.kinds.Which.{Which}
use Rattle.lookup.specs.declared.kinds.Accesses.{Accesses}
use Rattle.lookup.specs.declared.kinds.Accesses.TheVariants.{NoAccess, LoadsAtA, StoresNext}
use Rattle.lookup.specs.Kinds.{which_meant, accesses_meant}
use Rattle.isa.specs.Decisions.{accessed_with}
use Rattle.isa.proofs.Entries.{none_set, loads_or_stores, some_access, at_result, a_kept}

pub missing : {A : Type 0} (l : List A) (k : ℕ) (d : A) → length l ≤ k → d ≡ get_or l k d
missing l k d h = sym (get_or-eq_default l d h)

-- DECODE
pub lost : (i : Instruction) (h : Bool) → eqb i.code 2 && not h ≡ true → 15 ≡ result_target i h
unfolding result_target is
lost i h t = cc

pub targeted : (i : Instruction) (h : Bool) (k : Which) (r : ℕ) → eqb i.code 2 && not h ≡ false → which_meant k ≡ (row_of i.code).target
    → r ≡ register (which_meant k) i → r ≡ result_target i h
unfolding result_target is
targeted i h k r t q p = cc

-- EXECUTE
-- a function number past the last of its list
pub no_operation : (f a b : ℕ) → 4 ≤ f → 0 ≡ operated f a b
unfolding operated
no_operation f a b h = missing (sum b a ∷ difference b a ∷ bit_and b a ∷ bit_xor b a ∷ []) f 0 h

pub no_overflow : (f a b : ℕ) → 2 ≤ f → false ≡ overflows f a b
unfolding overflows
no_overflow f a b h = missing (outside w64 (signed b +ℤ signed a) ∷ outside w64 (signed b -ℤ signed a) ∷ []) f false h

pub past_six : (f : ℕ) → (f ≡ 0 → ⊥) → (f ≡ 1 → ⊥) → (f ≡ 2 → ⊥) → (f ≡ 3 → ⊥) → (f ≡ 4 → ⊥) → (f ≡ 5 → ⊥) → (f ≡ 6 → ⊥) → 7 ≤ f
past_six zero h0 h1 h2 h3 h4 h5 h6 = absurd (h0 refl)
past_six (suc zero) h0 h1 h2 h3 h4 h5 h6 = absurd (h1 refl)
past_six (suc (suc zero)) h0 h1 h2 h3 h4 h5 h6 = absurd (h2 refl)
past_six (suc (suc (suc zero))) h0 h1 h2 h3 h4 h5 h6 = absurd (h3 refl)
past_six (suc (suc (suc (suc zero)))) h0 h1 h2 h3 h4 h5 h6 = absurd (h4 refl)
past_six (suc (suc (suc (suc (suc zero))))) h0 h1 h2 h3 h4 h5 h6 = absurd (h5 refl)
past_six (suc (suc (suc (suc (suc (suc zero)))))) h0 h1 h2 h3 h4 h5 h6 = absurd (h6 refl)
past_six (suc (suc (suc (suc (suc (suc (suc f))))))) h0 h1 h2 h3 h4 h5 h6 = omega arith

pub no_condition : (f : ℕ) (c : Codes) → 7 ≤ f → false ≡ condition f c
unfolding condition
no_condition f c h =
    let ge = beq c.sf c.of in
    let e = c.zf in
    missing (true ∷ (not ge || e) ∷ not ge ∷ e ∷ not e ∷ ge ∷ (ge && not e) ∷ []) f false h

pub set_codes : (f a b v : ℕ) (n o : Bool) → v ≡ operated f a b → n ≡ lt_z (signed v) (pos 0) → o ≡ overflows f a b
    → record { zf = eqb v 0; sf = n; of = o } ≡ operated_codes f a b
unfolding operated_codes
set_codes f a b v n o e p q = cc

pub codes_operated : (x : Decoded) (c k : Codes) → x.instruction.code ≡ 6 → k ≡ operated_codes x.instruction.function x.a x.b → k ≡ new_codes x c
unfolding new_codes codes_by row_of table
codes_operated x c k h e = rw h e

pub codes_added : (x : Decoded) (c k : Codes) → x.instruction.code ≡ 12 → k ≡ operated_codes 0 x.instruction.constant x.b → k ≡ new_codes x c
unfolding new_codes codes_by row_of table
codes_added x c k h e = rw h e

pub codes_kept : (x : Decoded) (c : Codes) → (x.instruction.code ≡ 6 → ⊥) → (x.instruction.code ≡ 12 → ⊥) → c ≡ new_codes x c
unfolding new_codes codes_by
codes_kept x c h n = rw (none_set x.instruction.code h n)

pub tested : (i : Instruction) (c : Codes) (b : Bool) → (i.code ≡ 2) ⊎ (i.code ≡ 7) → b ≡ condition i.function c → b ≡ outcome i c
unfolding outcome is
tested i c b (inl h) e = cc (eq-eqb i.code 2 h)
tested i c b (inr h) e = cc (ap (λ (n : ℕ). eqb n 2) h, eq-eqb i.code 7 h)

pub untested : (i : Instruction) (c : Codes) → ((i.code ≡ 2) ⊎ (i.code ≡ 7) → ⊥) → true ≡ outcome i c
unfolding outcome is
untested i c h = cc (ne_eqb i.code 2 (λ e. h (inl e)), ne_eqb i.code 7 (λ e. h (inr e)))

pub executed_is : (x : Decoded) (c : Codes) (v : ℕ) (h : Bool) → v ≡ result x → h ≡ outcome x.instruction c
    → record { instruction = x.instruction; a = x.a; result = v; holds = h } ≡ execute x c
unfolding execute
executed_is x c v h e p = cc

pub back_to : (w : Accessed) → w.instruction.code ≡ 9 → w.word ≡ next_address w
unfolding next_address is
back_to w h = cc (eq-eqb w.instruction.code 9 h)

pub jumps_to : (w : Accessed) (v : ℕ) → w.instruction.code ≡ 7 → v ≡ turned w.instruction w.holds → v ≡ next_address w
unfolding next_address is
jumps_to w v k e = cc (ap (λ (n : ℕ). eqb n 9) k, eq-eqb w.instruction.code 7 k)

pub goes_on_lem : (w : Accessed) (v : ℕ) → (w.instruction.code ≡ 9 → ⊥) → (w.instruction.code ≡ 7 → ⊥) → v ≡ straight w.instruction → v ≡ next_address w
unfolding next_address is
goes_on_lem w v h k e = cc (ne_eqb w.instruction.code 9 h, ne_eqb w.instruction.code 7 k)

-- ACCESS
module _ (x : Executed) (k : Accesses) (q : accesses_meant k ≡ (row_of x.instruction.code).accesses) where
  pub at_a : k ≡ LoadsAtA → x.a ≡ access_address x
  unfolding access_address accesses_meant addressed
  at_a h = cc

  pub at_e : (k ≡ LoadsAtA → ⊥) → x.result ≡ access_address x
  unfolding access_address
  at_e h = cc (at_result k x h)

  pub next_stored : k ≡ StoresNext → x.instruction.next ≡ stored_word x
  unfolding stored_word accesses_meant stored
  next_stored h = cc

  pub a_stored : (k ≡ StoresNext → ⊥) → x.a ≡ stored_word x
  unfolding stored_word
  a_stored h = cc (a_kept k x h)

  pub word_read : (m : Memory) (b : Bool) (a v : ℕ) → b ≡ loading (accesses_meant k) → b ≡ true → a ≡ access_address x → v ≡ load m a
      → v ≡ cond (loads x.instruction) (load m (access_address x)) 0
  unfolding loads
  word_read m b a v e h f p = cc

  pub no_word : (m : Memory) (b : Bool) → b ≡ loading (accesses_meant k) → b ≡ false → 0 ≡ cond (loads x.instruction) (load m (access_address x)) 0
  unfolding loads
  no_word m b e h = cc

  pub patched_is : (s : Status) (w : Window) (d b c : Bool) (a : ℕ) → d ≡ storing (accesses_meant k) → b ≡ is_bad s → a ≡ access_address x
      → c ≡ meets_window w a → (d && (not b && c)) ≡ (stores x.instruction && (not (is_bad s) && meets_window w (access_address x)))
  unfolding stores
  patched_is s w d b c a e f g h = cc

  module _ (m : Memory) (b d n : Bool) (a : ℕ) (eb : b ≡ loading (accesses_meant k)) (ed : d ≡ storing (accesses_meant k))
      (ea : a ≡ access_address x) (en : n ≡ inside m a) where
    pub failed : (b || d) && not n ≡ true → adr ≡ access_status x m
    unfolding access_status loads stores
    failed h = cc

    pub sound : (b || d) && not n ≡ false → x.instruction.status ≡ access_status x m
    unfolding access_status loads stores
    sound h = cc

pub window_met : (w : Window) (first end a : ℕ) (b : Bool) → w ≡ within (first, end) → b ≡ ltb first (a + 8)
    → (ltb first end && (ltb a end && b)) ≡ meets_window w a
unfolding meets_window
window_met w first end a b e f = cc

pub no_window_met : (w : Window) (a : ℕ) → w ≡ no_window → false ≡ meets_window w a
unfolding meets_window
no_window_met w a e = cc

accessed_is : (x : Executed) (m : Memory) (w : Window) (v : ℕ) (s : Status) (b : Bool) (y : Accessed)
    → v ≡ cond (loads x.instruction) (load m (access_address x)) 0 → s ≡ access_status x m
    → b ≡ (stores x.instruction && (not (is_bad s) && meets_window w (access_address x)))
    → y ≡ accessed_with x v s b → y ≡ access x (through w m)
unfolding access patches access_status load inside accessed_with
accessed_is x m w v s b y e f h p = cc

-- access and write in one
both_same : {A : Type 0} (b : Bool) (v : A) → cond b v v ≡ v
both_same true v = refl
both_same false v = refl

and_false : (b : Bool) → b && false ≡ false
and_false true = refl
and_false false = refl

load_outside : (m : Memory) (a : ℕ) → inside m a ≡ false → load m a ≡ 0
unfolding load
load_outside m a h = cc

store_outside : (m : Memory) (a v : ℕ) → inside m a ≡ false → store m a v ≡ m
unfolding store
store_outside m a v h = cc

-- what is accessed and then written is so whatever the window
seen : (x : Executed) (m : Memory) (w : Window) (y : Accessed) (v : ℕ) (s : Status) (b : Bool) → y ≡ accessed_with x v s b
    → v ≡ (access x m).word → s ≡ (access x m).status → b ≡ (stores x.instruction && (not (is_bad s) && meets_window w (access_address x)))
    → y ≡ access x (through w m)
unfolding access
seen x m w y v s b e p q h = accessed_is x m w v s b y p q h e

-- z is what stands beside the kind, the executed instruction itself
module _ (x z : Executed) (is : z ≡ x) where
  pub accessed_by : (m : Memory) (w : Window) (v : ℕ) (s : Status) (b : Bool) (y : Accessed)
      → v ≡ cond (loads z.instruction) (load m (access_address z)) 0 → s ≡ access_status z m
      → b ≡ (stores z.instruction && (not (is_bad s) && meets_window w (access_address z)))
      → y ≡ accessed_with x v s b → y ≡ access x (through w m)
  accessed_by m w v s b y e f h p = accessed_is x m w v s b y (cc) (cc) (cc) p

  module _ (m : Memory) (k : Accesses) (q : accesses_meant k ≡ (row_of z.instruction.code).accesses) where
    pub updated : (m' : Memory) (d : Bool) (a v : ℕ) → d ≡ storing (accesses_meant k) → d ≡ true → a ≡ access_address z → v ≡ stored_word z
        → m' ≡ store m a v → m' ≡ new_memory x m
    unfolding new_memory stores
    updated m' d a v e h f p g = cc

    pub left_alone : (d : Bool) → d ≡ storing (accesses_meant k) → d ≡ false → m ≡ new_memory x m
    unfolding new_memory stores
    left_alone d e h = cc

    module _ (w : Window) (y : Accessed) where
      pub without_access : k ≡ NoAccess → y ≡ accessed_with x 0 x.instruction.status false
          → (y ≡ access x (through w m)) × (through w m ≡ new_memory x (through w m))
      unfolding access access_status loads stores new_memory accesses_meant loading storing
      without_access h e = (seen x m w y 0 _ false e (cc) (cc) (cc), written_through w x m m (cc))

      module _ (some : k ≡ NoAccess → ⊥) (a : ℕ) (ea : a ≡ access_address z) (n : Bool) (en : n ≡ inside m a) where
        pub outside_memory : n ≡ false → y ≡ accessed_with x 0 adr false → (y ≡ access x (through w m)) × (through w m ≡ new_memory x (through w m))
        unfolding access access_status loads stores new_memory is_bad
        outside_memory h e = (
          seen x m w y 0 adr false e (cc (load_outside m a (cc), both_same {A = ℕ} (loading (accesses_meant k)) 0)) (cc (some_access k some))
              (sym (and_false (storing (row_of x.instruction.code).accesses))),
          written_through w x m m (cc (store_outside m a (stored_word x) (cc), both_same (storing (accesses_meant k)) m)),
        )

        module _ (h : n ≡ true) (b : Bool) (eb : b ≡ loading (accesses_meant k)) where
          pub loaded_inside : (v : ℕ) → b ≡ true → v ≡ load m a → y ≡ accessed_with x v x.instruction.status false
              → (y ≡ access x (through w m)) × (through w m ≡ new_memory x (through w m))
          unfolding access access_status loads stores new_memory
          loaded_inside v t p e =
              let none = loads_or_stores (accesses_meant k) (cc) in
              (seen x m w y v _ false e (cc) (cc) (cc none), written_through w x m m (cc none))

          pub stored_inside : (v : ℕ) (m' : Memory) (d c : Bool) → b ≡ false → v ≡ stored_word z → m' ≡ store m a v
              → d ≡ is_bad x.instruction.status → c ≡ meets_window w a
              → y ≡ accessed_with x 0 x.instruction.status (not d && c) → (y ≡ access x (through w m)) × (through w m' ≡ new_memory x (through w m))
          unfolding access access_status loads stores new_memory
          stored_inside v m' d c t p f bad met e =
              let one = some_access k some in
              (seen x m w y 0 _ (not d && c) e (cc) (cc one) (cc one), written_through w x m m' (cc one))

-- Where no store writes a byte of an instruction that is fetched before, a fetch sees the bytes that the plain engine will see. With a window that
-- is so of itself: behind a store into the window every instruction is fetched later, and any other store writes no byte of an instruction.
use Prim.Native.Nat.{ℕ, zero, suc, ◌+◌, ◌-◌, ◌≤◌, ◌<◌, ◌/◌, min}
use Rattle.std.specs.Prelude.{Bool, cond, ◌&&◌, ◌≡◌, ltb, length, get_or, take, drop}
use Rattle.std.proofs.Math.Bool.{true, false}
use Rattle.std.proofs.Common.{true≢false, sym, ◌∙◌, subst, length-take, length-drop, ext_get_or, get_or-take, get_or-drop}
use Rattle.std.proofs.Math.Path.{refl, ap}
use native.Mathlib.Omega.{arith}
use Rattle.std.proofs.Math.Decide.{dec_lt}
use borrow.Author.Tests.{lt-ltb, le-leb, ltb-true, ltb-false, leb-true, leb-false}
use Rattle.std.proofs.Math.Dec.{leb}
use Rattle.account.specs.Names.{Window, no_window, within, Executed}
use Rattle.laws.specs.Memory.{size_stored, code_end_stored, byte_stored}
use Rattle.laws.specs.Window.{steps_keep}
use Rattle.machine.specs.Types.{is_set}
use Rattle.machine.specs.Memory.{Memory, size, seen_to, code_end, inside, store}
use Rattle.machine.specs.Table.{row_of}
use Rattle.machine.specs.Fetch.{fetch, parsed, own_bytes, size_at}
use Rattle.machine.specs.Stages.{decode, execute, access, stores, access_address, stored_word, meets_window, patches, new_memory}
use Rattle.published.specs.Lengths.{length_rule, parts}
use Rattle.published.specs.Fetching.{code_end_within}
use Rattle.machine.specs.Plain.{Plain, is_stopped, fetched, decoded, executed, accessed, step, steps}
use Rattle.clocked.specs.Prediction.{Core}
use Rattle.clocked.specs.Charges.{reason_of, charge, charges, due}
use Rattle.clocked.specs.Premise.{Premise, writes_byte, has_byte}
use Rattle.account.proofs.Laws.{patches_at, store_succeeds, in_executed, step_memory, stopped_before, waiting_less}
use Rattle.account.proofs.Relation.{Known, Sees}
use Rattle.account.proofs.Timing.{up_to, due_order}
use Rattle.account.specs.Seen.{wait, fetch_cycle, due_among, seen, FetchedAlike, Seen, FetchedBefore, UntouchedAhead}
use Rattle.account.proofs.Reach.{UntouchedStraight, straight_ahead}

-- WHAT A STORE LEAVES
pub size_new_memory : (x : Executed) (m : Memory) → size (new_memory x m) ≡ size m
unfolding new_memory
size_new_memory x m = go (stores x.instruction)
  where
    go : (b : Bool) → size (cond b (store m (access_address x) (stored_word x)) m) ≡ size m
    go false = refl
    go true = size_stored m (access_address x) (stored_word x)

end_new_memory : (x : Executed) (m : Memory) (a : ℕ) → code_end (new_memory x m) a ≡ code_end m a
unfolding new_memory
end_new_memory x m a = go (stores x.instruction)
  where
    go : (b : Bool) → code_end (cond b (store m (access_address x) (stored_word x)) m) a ≡ code_end m a
    go false = refl
    go true = code_end_stored m (access_address x) (stored_word x) a

byte_new_memory : (x : Executed) (m : Memory) (a : ℕ)
    → (stores x.instruction && (inside m (access_address x) && (leb (access_address x) a && ltb a (access_address x + 8))) ≡ true → ⊥)
    → get_or (new_memory x m).bytes a 0 ≡ get_or m.bytes a 0
unfolding new_memory
byte_new_memory x m a h = go (stores x.instruction) h
  where
    go : (b : Bool) → (b && (inside m (access_address x) && (leb (access_address x) a && ltb a (access_address x + 8))) ≡ true → ⊥)
        → get_or (cond b (store m (access_address x) (stored_word x)) m).bytes a 0 ≡ get_or m.bytes a 0
    go false h = refl
    go true h = byte_stored m (access_address x) (stored_word x) a h

-- TWO MEMORIES that agree on an instruction's bytes
record Same (m m' : Memory) (a : ℕ) : Type 0 where
  end : code_end m a ≡ code_end m' a
  at : (x : ℕ) → a ≤ x → x < a + size_at m' a → x < code_end m' a → get_or m.bytes x 0 ≡ get_or m'.bytes x 0

pub both : (a b : Bool) → a && b ≡ true → (a ≡ true) × (b ≡ true)
both true b h = (refl, h)
both false b h = (h, cc)

-- by the length rule no instruction is without a byte
pub size_positive : (m : Memory) (a : ℕ) → 0 < size_at m a
unfolding size_at parts
size_positive m a = omega (arith, length_rule (get_or m.bytes a 0 / 16))

same_size : (m m' : Memory) (a : ℕ) → Same m m' a → a < code_end m' a → size_at m a ≡ size_at m' a
unfolding size_at
same_size m m' a h q = ap (λ (b : ℕ). (row_of (b / 16)).size) (h.at a (omega arith) (omega (arith, size_positive m' a)) q)

-- as many bytes as the table has, or as there are
length_own : (m : Memory) (a : ℕ) → length (own_bytes m a) ≡ min (size_at m a) (code_end m a - a)
unfolding own_bytes
length_own m a =
    let within = code_end_within m a in
    simp (length-take, length-drop) (omega arith)

byte_own : (m : Memory) (a i : ℕ) → i < length (own_bytes m a) → get_or (own_bytes m a) i 0 ≡ get_or m.bytes (a + i) 0
unfolding own_bytes
byte_own m a i q =
    let z : i < min (size_at m a) (code_end m a - a) = rw (sym (length_own m a)) q in
    get_or-take (size_at m a) (drop a (take (code_end m a) m.bytes)) i 0 (omega arith)
    ∙ (get_or-drop a (take (code_end m a) m.bytes) i 0 ∙ get_or-take (code_end m a) m.bytes (a + i) 0 (omega arith))

module _ (m m' : Memory) (a : ℕ) (h : Same m m' a) where
  same_length : length (own_bytes m a) ≡ length (own_bytes m' a)
  same_length = length_own m a ∙ (go (dec_lt a (code_end m' a)) ∙ sym (length_own m' a))
    where
      go : Dec (a < code_end m' a) → min (size_at m a) (code_end m a - a) ≡ min (size_at m' a) (code_end m' a - a)
      go (yes q) = omega (arith, same_size m m' a h q, h.end)
      go (no q) = omega (arith, h.end)

  same_byte : (i : ℕ) → i < length (own_bytes m a) → get_or (own_bytes m a) i 0 ≡ get_or (own_bytes m' a) i 0
  same_byte i q =
      let r : i < length (own_bytes m' a) = omega (arith, same_length) in
      let z = length_own m' a in
      byte_own m a i q ∙ (h.at (a + i) (omega arith) (omega arith) (omega arith) ∙ sym (byte_own m' a i r))

  same_bytes : own_bytes m a ≡ own_bytes m' a
  same_bytes = ext_get_or 0 _ _ same_length same_byte

same_fetch : (m m' : Memory) (a : ℕ) → Same m m' a → fetch m a ≡ fetch m' a
unfolding fetch
same_fetch m m' a h = ap (parsed a) (same_bytes m m' a h)

-- one instruction further back, which writes none of the bytes
same_back : (s : Plain) (m' : Memory) (a : ℕ) → is_stopped s ≡ false → Same (step s).memory m' a
    → ((x : ℕ) → writes_byte s x ≡ true → a ≤ x → x < a + size_at m' a → x < code_end m' a → ⊥) → Same s.memory m' a
unfolding writes_byte executed execute decoded decode
same_back s m' a r h k =
    record {
      end = sym (ap (λ (m : Memory). code_end m a) (step_memory s r) ∙ end_new_memory (executed s) s.memory a) ∙ h.end;
      at = λ x lo hi q. sym (unwritten x (λ e. k x e lo hi q)) ∙ h.at x lo hi q;
    }
  where
    unwritten : (x : ℕ) → (writes_byte s x ≡ true → ⊥) → get_or (step s).memory.bytes x 0 ≡ get_or s.memory.bytes x 0
    unwritten x f =
        ap (λ (m : Memory). get_or m.bytes x 0) (step_memory s r)
        ∙ byte_new_memory (executed s) s.memory x f

pub runs_before : (s : Plain) (d j n : ℕ) → d + j ≡ n → is_stopped (steps s n) ≡ false → is_stopped (steps s j) ≡ false
unfolding steps
runs_before s zero j n e h =
    let q : j ≡ n = omega arith in
    rw q h
runs_before s (suc d) j n e h = stopped_before (steps s j) (runs_before s d (suc j) n (omega arith) h)

-- WITH A WINDOW
-- a byte that an instruction at a may have is one of the window's
code_inside : (first end n a x : ℕ) → a ≤ x → x < seen_to (within (first, end)) n a → (first ≤ x) × (x < end)
unfolding seen_to
code_inside first end n a x lo = go (ltb a first) refl
  where
    go : (b : Bool) → ltb a first ≡ b → x < min (cond b a end) n → (first ≤ x) × (x < end)
    go true e h = absurd (omega arith)
    go false e h = let q = ltb-false a first e in (omega arith, omega arith)

-- a byte of the window that is written is written by a store that is seen to do so
writes_patches : (s : Plain) (first end x : ℕ) → s.memory.window ≡ within (first, end) → first ≤ x → x < end → writes_byte s x ≡ true → patches_at s ≡ true
unfolding patches_at writes_byte patches meets_window accessed access
writes_patches s first end x w lo hi h =
    let a = access_address (executed s) in
    let u = both (stores (fetched s)) (inside s.memory a && (leb a x && ltb x (a + 8))) h in
    let v = both (inside s.memory a) (leb a x && ltb x (a + 8)) u.1 in
    let y = both (leb a x) (ltb x (a + 8)) v.1 in
    let b = leb-true a x y.0 in
    let c = ltb-true x (a + 8) y.1 in
    cc (
      in_executed s,
      u.0,
      store_succeeds s u.0 v.0,
      lt-ltb first end (omega arith),
      lt-ltb a end (omega arith),
      lt-ltb first (a + 8) (omega arith),
    )

-- so with a window no store that is not seen writes a byte of an instruction
window_apart : (s : Plain) (j n x : ℕ) → is_set s.memory.window ≡ true → patches_at (steps s j) ≡ false → writes_byte (steps s j) x ≡ true
    → has_byte (steps s n) x ≡ true → ⊥
unfolding is_set has_byte code_end
window_apart s j n x set z h k = go s.memory.window refl
  where
    a : ℕ
    a = (steps s n).machine.address

    go : (w : Window) → s.memory.window ≡ w → ⊥
    go no_window e = true≢false (sym set ∙ ap is_set e)
    go (within (first, end)) e =
        let p = both (leb a x) (ltb x (a + size_at (steps s n).memory a) && ltb x (code_end (steps s n).memory a)) k in
        let q = both (ltb x (a + size_at (steps s n).memory a)) (ltb x (code_end (steps s n).memory a)) p.1 in
        let below : x < seen_to (within (first, end)) (size (steps s n).memory) a =
        subst (λ w. x < seen_to w (size (steps s n).memory) a) ((steps_keep s n).0 ∙ e) (ltb-true x (code_end (steps s n).memory a) q.1) in
        let r = code_inside first end (size (steps s n).memory) a x (leb-true a x p.0) below in
        true≢false (sym (writes_patches (steps s j) first end x ((steps_keep s j).0 ∙ e) r.0 r.1 h) ∙ z)

-- WHAT A FETCH SEES
module _ (g : Core) (s : Plain) where
  pub sees_number : (d n : ℕ) → Sees g s d (due_among g s d n) n
  unfolding due_among
  sees_number d zero = record { lo = omega arith; older = λ i q. absurd (omega arith); later = λ q. absurd (omega arith) }
  sees_number d (suc n) = by (leb (due g s (suc n)) d) refl (sees_number d n)
    where
      by : (b : Bool) → leb (due g s (suc n)) d ≡ b → Sees g s d (due_among g s d n) n → Sees g s d (cond b (suc n) (due_among g s d n)) (suc n)
      by true e v =
          record {
            lo = omega arith;
            older = λ i q. omega (arith, leb-true (due g s (suc n)) d e, due_order g s (suc i) (suc n) (omega arith));
            later = λ q. absurd (omega arith);
          }
      by false e v =
          record {
            lo = omega (arith, v.lo);
            older = v.older;
            later =
                λ q. up_to {P = λ (i : ℕ). i ≡ due_among g s d n → d < due g s (suc i)} n (λ i q z. rw z (v.later (omega arith)))
                (λ z. leb-false (due g s (suc n)) d e) (due_among g s d n) q refl;
          }

  -- there is one such number
  pub sees_only : {d i j n : ℕ} → Sees g s d i n → Sees g s d j n → i ≡ j
  sees_only {d} {i} {j} {n} a b = go (dec_lt i j) (dec_lt j i)
    where
      go : Dec (i < j) → Dec (j < i) → i ≡ j
      go (yes h) _ = absurd (omega (arith, a.later (omega (arith, b.lo)), b.older i h))
      go (no _) (yes h) = absurd (omega (arith, b.later (omega (arith, a.lo)), a.older j h))
      go (no x) (no y) = omega arith

  -- instruction n + 1 is fetched four cycles before it is due, and one more where it waits
  pub fetch_due : (n : ℕ) → fetch_cycle g s (suc n) + 4 + wait g s (suc n) ≡ due g s (suc n)
  unfolding fetch_cycle wait due charges charge
  fetch_due n = omega (arith, waiting_less (reason_of g s (suc n)))

-- THE PREMISE, by pairs and by threes
module _ (g : Core) (s : Plain) where
  -- one instruction: no store that its fetch does not see writes a byte of it
  module _ (n : ℕ) (r : is_stopped (steps s n) ≡ false)
      (u : (j : ℕ) → j < n → FetchedBefore g s n j → (x : ℕ) → writes_byte (steps s j) x ≡ true → has_byte (steps s n) x ≡ true → ⊥) where
    -- what is not seen is not due by the cycle of the fetch
    late : (j : ℕ) → due_among g s (fetch_cycle g s (suc n)) n ≤ j → j < n → FetchedBefore g s n j
    late j b h =
        let m = due_among g s (fetch_cycle g s (suc n)) n in
        omega (arith, fetch_due g s n, (sees_number g s (fetch_cycle g s (suc n)) n).later (omega arith), due_order g s (suc m) (suc j) (omega arith))

    back : (d j : ℕ) → d + j ≡ n → due_among g s (fetch_cycle g s (suc n)) n ≤ j → Same (steps s j).memory (steps s n).memory (steps s n).machine.address
    unfolding steps has_byte
    back zero j e b =
        let q : j ≡ n = omega arith in
        rw q (record { end = refl; at = λ x _ _ _. refl })
    back (suc d) j e b =
        same_back (steps s j) (steps s n).memory (steps s n).machine.address (runs_before s (suc d) j n e r) (back d (suc j) (omega arith) (omega arith))
        (λ x st lo hi q. u j (omega arith) (late j b (omega arith)) x st (cc (le-leb _ _ lo, lt-ltb _ _ hi, lt-ltb _ _ q)))

    pub alike_at : FetchedAlike g s n
    unfolding fetched seen
    alike_at =
        let j = due_among g s (fetch_cycle g s (suc n)) n in
        same_fetch (steps s j).memory (steps s n).memory (steps s n).machine.address
        (back (n - j) j (omega (arith, (sees_number g s (fetch_cycle g s (suc n)) n).lo)) (omega arith))

  pub ahead_seen : (K : ℕ) → UntouchedAhead g s K → Seen g s K
  ahead_seen K u n q r = alike_at n r (λ j lo d. u j n lo d q r)

  -- document 01's three instructions, and nothing where a window is set
  pub premise_straight : (K : ℕ) → Premise s K → UntouchedStraight g s K
  premise_straight K u j n lo hi between q r x w k = go (is_set s.memory.window) refl
    where
      go : (b : Bool) → is_set s.memory.window ≡ b → ⊥
      go true e = window_apart s j n x e (between j (omega arith) lo).keeps w k
      go false e = u e j n lo hi q r x w k

  pub premise_seen : (K : ℕ) → Premise s K → Seen g s K
  premise_seen K u = ahead_seen K (straight_ahead g s K (premise_straight K u))

  -- from a stop on no instruction is performed: the premise over the n instructions up to it is the premise throughout
  pub seen_on : (n : ℕ) → is_stopped (steps s n) ≡ true → Seen g s n → (K : ℕ) → Seen g s K
  seen_on n h u K i q r = go (dec_lt i n)
    where
      go : Dec (i < n) → FetchedAlike g s i
      go (yes z) = u i z r
      go (no z) = absurd (true≢false (sym h ∙ runs_before s (i - n) n i (omega arith) r))

-- SIGHT: what the relation knows of memory when an instruction is fetched is the memory that the premise speaks of
module _ (g : Core) (s : Plain) (K : ℕ) (u : Seen g s K) (c : ℕ) where
  pub sight : (j n : ℕ) → Sees g s (c + 1) j n → due g s (suc n) ≡ c + 5 + wait g s (suc n) → Known g s K n
      → fetch (steps s j).memory (steps s n).machine.address ≡ fetched (steps s n)
  unfolding seen
  sight j n v t l =
      let at : fetch_cycle g s (suc n) ≡ c + 1 = omega (arith, fetch_due g s n) in
      let e : due_among g s (fetch_cycle g s (suc n)) n ≡ j
      = ap (λ (d : ℕ). due_among g s d n) at ∙ sees_only g s (sees_number g s (c + 1) n) v in
      ap (λ (i : ℕ). fetch (steps s i).memory (steps s n).machine.address) (sym e) ∙ u n l.below l.runs

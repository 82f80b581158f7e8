-- The watch one instruction at a time, with three instructions to remember: in linear time. A store is undone by the word that it wrote over.
use Prim.Native.Nat.{ℕ, zero, suc, ◌+◌, ◌-◌, ◌*◌, ◌/◌, ◌%◌, ◌≤◌, ◌<◌}
use Rattle.std.specs.Prelude.{Bool, ◌&&◌, ◌||◌, List, ◌≡◌, ltb, eqb, length, get_or, set}
use Rattle.std.proofs.Math.Bool.{true, false, cond, not}
use Rattle.std.proofs.Common.{true≢false, ◌∙◌, length-set, ext_get_or, get_or-set_same, get_or-set_other}
use Rattle.std.proofs.Math.Path.{refl, ap, sym, subst}
use native.Mathlib.Omega.{arith}
use Rattle.std.proofs.Math.Decide.{dec_lt, ℕ_discrete}
use borrow.Author.Tests.{ltb-true, leb-true, lt-ltb, le-ltb, le-leb, lt-leb}
use Rattle.std.proofs.Math.Dec.{leb, eqb-suc-zero}
use Rattle.account.specs.Names.{last_kept}
use Rattle.machine.specs.Words.{number, placed}
use Rattle.machine.specs.Memory.{Memory, holding, size, inside, load, store}
use Rattle.machine.specs.Fetch.{fetch}
use Rattle.machine.specs.Stages.{decode, execute, stores, access_address, stored_word, new_memory}
use Rattle.machine.specs.Plain.{Plain, is_stopped, fetched, decoded, executed, accessed, step, steps}
use Rattle.clocked.specs.Prediction.{Core}
use Rattle.clocked.specs.Charges.{amount, charge, charges, reason_of, reason_from, retired_of, due}
use Rattle.laws.specs.Memory.{length_placed, byte_stored}
use Rattle.account.specs.Statement.{kept_of}
use Rattle.account.specs.Seen.{waiting, wait, fetch_cycle, due_among, seen}
use Rattle.account.proofs.Laws.{step_memory}
use Rattle.account.proofs.Timing.{due_order}
use Rattle.account.proofs.Reach.{within_three}
use Rattle.account.proofs.Sight.{both, runs_before, sees_number, fetch_due}
use Rattle.account.proofs.Theorem.{reason_kept}
use Rattle.account.proofs.Needed.{stop_stays}
use Rattle.account.specs.Contents.{Bytes}
use Rattle.account.proofs.Contents.{bytes_stored}
use Rattle.account.specs.Decide.{touches, clear, all}
use Rattle.account.specs.DecideSeen.{same, is_alike, well_fetched}
use Rattle.account.specs.Watch.{first_failing}
use Rattle.account.specs.Watching.{Past, Watched, Watching, found, noted, nothing, past_of, reaches, unseen, watch, watch_start, watch_step, watches, without}

and_true : (b : Bool) → b && true ≡ b
and_true true = refl
and_true false = refl

-- UNDOING
-- the k bytes of b from a on, written over a list that is b elsewhere, make it b
restore : (k : ℕ) (b c : List ℕ) (a : ℕ) → Bytes b → length c ≡ length b → a + k ≤ length b
    → ((x : ℕ) → (a ≤ x → a + k ≤ x) → get_or c x 0 ≡ get_or b x 0) → placed k c a (number k b a) ≡ b
unfolding placed number
restore zero b c a h l q f = ext_get_or 0 c b l (λ i _. f i (λ z. omega arith))
restore (suc k) b c a h l q f =
    let n = get_or b a 0 + 256 * number k b (a + 1) in
    let low : n % 256 ≡ get_or b a 0 = omega (arith, h a) in
    let high : n / 256 ≡ number k b (a + 1) = omega (arith, h a) in
    rw (low, high) (restore k b (set c a (get_or b a 0)) (a + 1) h (length-set c a (get_or b a 0) ∙ l) (omega arith) (λ x z. one x z (ℕ_discrete a x)))
  where
    one : (x : ℕ) → (a + 1 ≤ x → a + 1 + k ≤ x) → Dec (a ≡ x) → get_or (set c a (get_or b a 0)) x 0 ≡ get_or b x 0
    one x z (yes e) = rw (← e) (get_or-set_same c a (get_or b a 0) 0 (omega arith))
    one x z (no e) = get_or-set_other c a x (get_or b a 0) 0 (λ i. e (sym i)) ∙ f x (λ i. omega (arith, z (omega (arith, e))))

-- so the word that a store wrote over, stored again, gives memory back
pub store_undone : (m : Memory) (a v : ℕ) → Bytes m.bytes → store (store m a v) a (load m a) ≡ m
unfolding store load inside
store_undone m a v h = go (ltb (a + 7) (size m)) refl
  where
    go : (b : Bool) → ltb (a + 7) (size m) ≡ b → store (store m a v) a (load m a) ≡ m
    go false e = cc
    go true e =
        let q = ltb-true (a + 7) (size m) e in
        let l = length_placed 8 m.bytes a v in
        let again : ltb (a + 7) (length (placed 8 m.bytes a v)) ≡ true = rw l e in
        let back : placed 8 (placed 8 m.bytes a v) a (number 8 m.bytes a) ≡ m.bytes
        = restore 8 m.bytes (placed 8 m.bytes a v) a h l (omega arith) (λ x z. other x z) in
        rw (e, again, back)
      where
        other : (x : ℕ) → (a ≤ x → a + 8 ≤ x) → get_or (placed 8 m.bytes a v) x 0 ≡ get_or m.bytes x 0
        other x z = ap (λ (c : Bool). get_or (cond c (holding m (placed 8 m.bytes a v)) m).bytes x 0) (sym e) ∙ byte_stored m a v x away
          where
            away : ltb (a + 7) (size m) && (leb a x && ltb x (a + 8)) ≡ true → ⊥
            away w =
                let u = both (ltb (a + 7) (size m)) (leb a x && ltb x (a + 8)) w in
                let y = both (leb a x) (ltb x (a + 8)) u.1 in
                omega (arith, leb-true a x y.0, ltb-true x (a + 8) y.1, z (leb-true a x y.0))

store_outside : (m : Memory) (a v : ℕ) → inside m a ≡ false → store m a v ≡ m
unfolding store
store_outside m a v e = cc

without_past : (s : Plain) (d : ℕ) → is_stopped s ≡ false → Bytes s.memory.bytes → without (past_of s d) (step s).memory ≡ s.memory
unfolding without past_of new_memory executed execute decoded decode
without_past s d r h = ap (without (past_of s d)) (step_memory s r) ∙ go (stores (fetched s)) (inside s.memory (access_address (executed s))) refl refl
  where
    go : (b c : Bool) → stores (fetched s) ≡ b → inside s.memory (access_address (executed s)) ≡ c
        → without (past_of s d) (new_memory (executed s) s.memory) ≡ s.memory
    go false c e f = cc
    go true true e f = cc (store_undone s.memory (access_address (executed s)) (stored_word (executed s)) h)
    go true false e f = cc (store_outside s.memory (access_address (executed s)) (stored_word (executed s)) f)

module _ (g : Core) (s : Plain) where
  -- the instruction m before instruction n + 1, counted from 1: nothing where there is none
  unfoldable pub before : (n m : ℕ) → Past
  before n m = cond (leb m n) (past_of (steps s (n - m)) (due g s (suc (n - m)))) nothing

  bytes_steps : Bytes s.memory.bytes → (n : ℕ) → Bytes (steps s n).memory.bytes
  unfolding steps
  bytes_steps h zero = h
  bytes_steps h (suc n) = go (is_stopped (steps s n)) refl (bytes_steps h n)
    where
      go : (b : Bool) → is_stopped (steps s n) ≡ b → Bytes (steps s n).memory.bytes → Bytes (step (steps s n)).memory.bytes
      go true e k = subst (λ (q : Plain). Bytes q.memory.bytes) (sym (stop_stays (steps s n) e)) k
      go false e k = subst (λ (m : Memory). Bytes m.bytes) (sym (step_memory (steps s n) e)) (bytes_stored (executed (steps s n)) (steps s n).memory k)

  module _ (h : Bytes s.memory.bytes) (n : ℕ) (r : is_stopped (steps s n) ≡ false) where
    abbrev J : ℕ
    J = due_among g s (fetch_cycle g s (suc n)) n

    abbrev missed : ℕ → Bool
    missed m = unseen (due g s (suc n)) (wait g s (suc n)) (before n m)

    is_missed : (m : ℕ) → m ≤ n → J ≤ n - m → n - m < n → missed m ≡ true
    unfolding unseen before past_of
    is_missed m q z o =
        let number = sees_number g s (fetch_cycle g s (suc n)) n in
        let late : due g s (suc n) < due g s (suc (n - m)) + 4 + wait g s (suc n)
        = omega (arith, fetch_due g s n, number.later (omega arith), due_order g s (suc J) (suc (n - m)) (omega arith)) in
        cc (le-leb m n q, lt-ltb _ _ late)

    is_found : (m : ℕ) → (m ≤ n → n - m < J) → missed m ≡ false
    unfolding unseen before past_of nothing
    is_found m z = go (dec_lt n m)
      where
        go : Dec (n < m) → missed m ≡ false
        go (yes q) = cc (lt-leb m n q, le-ltb (due g s (suc n)) (4 + wait g s (suc n)) (omega (arith, fetch_due g s n)))
        go (no q) =
            let number = sees_number g s (fetch_cycle g s (suc n)) n in
            let early : due g s (suc (n - m)) + 4 + wait g s (suc n) ≤ due g s (suc n)
            = omega (arith, fetch_due g s n, number.older (n - m) (z (omega arith))) in
            cc (le-leb m n (omega arith), le-ltb _ _ early)

    back : (m : ℕ) → m < n → without (before n (suc m)) (steps s (n - m)).memory ≡ (steps s (n - suc m)).memory
    unfolding before steps
    back m q =
        let e : n - m ≡ suc (n - suc m) = omega arith in
        rw (e, le-leb (suc m) n (omega arith)) (without_past (steps s (n - suc m)) (due g s (suc (n - suc m)))
        (runs_before s (suc m) (n - suc m) n (omega arith) r) (bytes_steps h (n - suc m)))

    pub found_seen : found (due g s (suc n)) (wait g s (suc n)) (before n 1) (before n 2) (before n 3) (steps s n).memory ≡ seen g s n
    unfolding found seen
    found_seen = none (dec_lt J n)
      where
        at : (i : ℕ) → i ≡ J → (steps s i).memory ≡ (steps s J).memory
        at i e = ap (λ (j : ℕ). (steps s j).memory) e

        m0 : Memory
        m0 = (steps s n).memory

        whole : n - 0 ≡ n
        whole = omega arith

        all_three : J < n → J + 1 < n → J + 2 < n → found (due g s (suc n)) (wait g s (suc n)) (before n 1) (before n 2) (before n 3) m0 ≡ (steps s J).memory
        all_three a b c =
            let three = within_three g s J n a (omega (arith, fetch_due g s n, (sees_number g s (fetch_cycle g s (suc n)) n).later a)) in
            cc (
              is_missed 1 (omega arith) (omega arith) (omega arith),
              is_missed 2 (omega arith) (omega arith) (omega arith),
              is_missed 3 (omega arith) (omega arith) (omega arith),
              back 0 (omega arith),
              whole,
              back 1 (omega arith),
              back 2 (omega arith),
              at (n - 3) (omega arith),
            )

        two : J < n → J + 1 < n → Dec (J + 2 < n) → found (due g s (suc n)) (wait g s (suc n)) (before n 1) (before n 2) (before n 3) m0 ≡ (steps s J).memory
        two a b (yes c) = all_three a b c
        two a b (no c) =
            cc (
              is_missed 1 (omega arith) (omega arith) (omega arith),
              is_missed 2 (omega arith) (omega arith) (omega arith),
              is_found 3 (λ q. omega arith),
              back 0 (omega arith),
              whole,
              back 1 (omega arith),
              at (n - 2) (omega arith),
            )

        one : J < n → Dec (J + 1 < n) → found (due g s (suc n)) (wait g s (suc n)) (before n 1) (before n 2) (before n 3) m0 ≡ (steps s J).memory
        one a (yes b) = two a b (dec_lt (J + 2) n)
        one a (no b) =
            cc (is_missed 1 (omega arith) (omega arith) (omega arith), is_found 2 (λ q. omega arith), back 0 (omega arith), whole, at (n - 1) (omega arith))

        none : Dec (J < n) → found (due g s (suc n)) (wait g s (suc n)) (before n 1) (before n 2) (before n 3) m0 ≡ (steps s J).memory
        none (yes a) = one a (dec_lt (J + 1) n)
        none (no a) =
            let number = sees_number g s (fetch_cycle g s (suc n)) n in
            cc (is_found 1 (λ q. omega (arith, number.lo)), at n (omega (arith, number.lo)))

reaches_past : (s t : Plain) (d : ℕ) → reaches (past_of s d) t ≡ touches s t
unfolding reaches past_of touches
reaches_past s t d = go (stores (fetched s)) refl
  where
    go : (b : Bool) → stores (fetched s) ≡ b → reaches (past_of s d) t ≡ touches s t
    go true e = cc
    go false e = cc

reaches_nothing : (t : Plain) → reaches nothing t ≡ false
unfolding reaches nothing
reaches_nothing t = refl

-- WHAT IT HAS FOUND
record Remembers (g : Core) (s : Plain) (n : ℕ) (w : Watching) : Type 0 where
  performed : w.performed ≡ n
  kept : w.kept ≡ kept_of s n
  due_then : w.due ≡ due g s n
  one : w.one ≡ before g s n 1
  two : w.two ≡ before g s n 2
  three : w.three ≡ before g s n 3

module _ (g : Core) (s : Plain) where
  -- the instructions before move up by one
  before_next : (n : ℕ) → before g s (suc n) 1 ≡ past_of (steps s n) (due g s (suc n))
  unfolding before
  before_next n =
      let e : suc n - 1 ≡ n = omega arith in
      cc (le-leb 1 (suc n) (omega arith))

  before_on : (n m : ℕ) → before g s (suc n) (suc m) ≡ before g s n m
  unfolding before
  before_on n m = go (dec_lt n m)
    where
      go : Dec (n < m) → before g s (suc n) (suc m) ≡ before g s n m
      go (yes q) = cc (lt-leb m n q, lt-leb (suc m) (suc n) (omega arith))
      go (no q) =
          let e : suc n - suc m ≡ n - m = omega arith in
          cc (le-leb m n (omega arith), le-leb (suc m) (suc n) (omega arith))

  clear_one : (n d : ℕ) → leb n d || not (touches (steps s (n - suc d)) (steps s n)) ≡ not (reaches (before g s n (suc d)) (steps s n))
  unfolding before
  clear_one n d = go (dec_lt d n)
    where
      go : Dec (d < n) → leb n d || not (touches (steps s (n - suc d)) (steps s n)) ≡ not (reaches (before g s n (suc d)) (steps s n))
      go (yes q) = cc (lt-leb n d q, le-leb (suc d) n q, reaches_past (steps s (n - suc d)) (steps s n) (due g s (suc (n - suc d))))
      go (no q) = cc (le-leb n d (omega arith), lt-leb (suc d) n (omega arith), reaches_nothing (steps s n))

  clear_now : (n : ℕ) → is_stopped (steps s n) ≡ false
      → clear 3 s n ≡ not (reaches (before g s n 3) (steps s n)) && (not (reaches (before g s n 2) (steps s n)) && not (reaches (before g s n 1) (steps s n)))
  unfolding clear all
  clear_now n r = cc (clear_one n 0, clear_one n 1, clear_one n 2, and_true (not (reaches (before g s n 1) (steps s n))))

  -- what is noted of instruction n + 1
  noted_fine : (f : ℕ → Bool) (n : ℕ) → f n ≡ true → first_failing f (suc n) ≡ first_failing f n
  unfolding first_failing
  noted_fine f n h = go (first_failing f n) refl
    where
      go : (k : ℕ) → first_failing f n ≡ k → cond (eqb (first_failing f n) 0) (cond (f n) 0 (suc n)) (first_failing f n) ≡ first_failing f n
      go zero e = cc
      go (suc k) e = cc (eqb-suc-zero k)

  noted_first : (f : ℕ → Bool) (n k e : ℕ) (b : Bool) → k ≡ n → e ≡ first_failing f n → b ≡ f n → noted b (k + 1) e ≡ first_failing f (suc n)
  unfolding noted first_failing
  noted_first f n k e b q h z =
      let one : k + 1 ≡ suc n = omega arith in
      cc

  module _ (h : Bytes s.memory.bytes) (n : ℕ) (w : Watching) (x : Watched g s n w) where
    watch_stopped : is_stopped (steps s n) ≡ true → Watched g s (suc n) (watch g w)
    unfolding watch steps clear well_fetched
    watch_stopped r =
        let still : watch g w ≡ w = cc x.state in
        record {
          state = ap (λ (v : Watching). v.state) still ∙ (x.state ∙ sym (stop_stays (steps s n) r));
          written = ap (λ (v : Watching). v.written) still ∙ (x.written ∙ sym (noted_fine (clear 3 s) n (cc)));
          mistaken = ap (λ (v : Watching). v.mistaken) still ∙ (x.mistaken ∙ sym (noted_fine (well_fetched g s) n (cc)));
        }

    module _ (r : is_stopped (steps s n) ≡ false) (y : Remembers g s n w) where
      on : watch g w ≡ watch_step g w
      unfolding watch
      on = cc x.state

      why : reason_from g w.kept (fetched w.state) ≡ reason_of g s (suc n)
      why = cc (x.state, y.kept, reason_kept g s 0 n)

      next_due : w.due + 1 + amount (reason_from g w.kept (fetched w.state)) ≡ due g s (suc n)
      unfolding due charges charge
      next_due = omega (arith, y.due_then, ap amount why)

      at : found (due g s (suc n)) (wait g s (suc n)) w.one w.two w.three w.state.memory ≡ seen g s n
      at = cc (x.state, y.one, y.two, y.three, found_seen g s h n r)

      untouched_now : not (reaches w.three w.state) && (not (reaches w.two w.state) && not (reaches w.one w.state)) ≡ clear 3 s n
      untouched_now = cc (x.state, y.one, y.two, y.three, clear_now n r)

      alike_now : same (fetch (found (w.due + 1 + amount (reason_from g w.kept (fetched w.state))) (waiting (reason_from g w.kept (fetched w.state)))
          w.one w.two w.three w.state.memory) w.state.machine.address) (fetched w.state)
          ≡ well_fetched g s n
      unfolding well_fetched is_alike wait
      alike_now = cc (x.state, next_due, why, at, r)

      watch_runs : Watched g s (suc n) (watch_step g w)
      unfolding watch_step steps
      watch_runs =
          record {
            state = ap step x.state;
            written = noted_first (clear 3 s) n w.performed w.written _ y.performed x.written untouched_now;
            mistaken = noted_first (well_fetched g s) n w.performed w.mistaken _ y.performed x.mistaken alike_now;
          }

      remembers_on : Remembers g s (suc n) (watch_step g w)
      unfolding watch_step kept_of
      remembers_on =
          record {
            performed = omega (arith, y.performed);
            kept = ap (λ (q : Plain). last_kept (retired_of (accessed q))) x.state;
            due_then = next_due;
            one = cc (x.state, next_due, before_next n);
            two = cc (y.one, before_on n 1);
            three = cc (y.two, before_on n 2);
          }

  -- after every n
  both_hold : Bytes s.memory.bytes → (n : ℕ) → Watched g s n (watches g s n) × (is_stopped (steps s n) ≡ false → Remembers g s n (watches g s n))
  unfolding watches watch_start steps first_failing kept_of due charges before nothing
  both_hold h zero = (
    record { state = refl; written = refl; mistaken = refl },
    λ _. record { performed = refl; kept = refl; due_then = refl; one = refl; two = refl; three = refl },
  )
  both_hold h (suc n) = go (is_stopped (steps s n)) refl (both_hold h n)
    where
      go : (b : Bool) → is_stopped (steps s n) ≡ b → Watched g s n (watches g s n) × (is_stopped (steps s n) ≡ false → Remembers g s n (watches g s n))
          → Watched g s (suc n) (watch g (watches g s n)) × (is_stopped (steps s (suc n)) ≡ false → Remembers g s (suc n) (watch g (watches g s n)))
      go true e z = (
        watch_stopped h n (watches g s n) z.0 e,
        λ q. absurd (true≢false (sym e ∙ (sym (ap is_stopped (stop_stays (steps s n) e)) ∙ q))),
      )
      go false e z =
          let k = on h n (watches g s n) z.0 e (z.1 e) in (
            subst (Watched g s (suc n)) (sym k) (watch_runs h n (watches g s n) z.0 e (z.1 e)),
            λ _. subst (Remembers g s (suc n)) (sym k) (remembers_on h n (watches g s n) z.0 e (z.1 e)),
          )

-- THE WATCH, instruction by instruction, is the watch over the history
pub watched : (g : Core) (s : Plain) → Bytes s.memory.bytes → (n : ℕ) → Watched g s n (watches g s n)
watched g s h n = (both_hold g s h n).0

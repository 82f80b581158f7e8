-- The weakest premise beside document 01's, computed: stores at each distance, with a wait, a wrong guess and a return between, of the same bytes, of a
-- filler, into the window; and the one way in which the pipeline agrees without it.
use Rattle.std.specs.Prelude.{ℕ, zero, suc, ◌+◌, ◌-◌, ◌≤◌, ◌<◌, Bool, true, false, List, ◌∷◌, ◌++◌, ◌≡◌, refl, replicate}
use Rattle.std.proofs.Common.{true≢false, ap, sym, ◌∙◌, subst, arith}
use Rattle.std.proofs.Math.Decide.{dec_lt}
use Rattle.account.specs.Names.{Status, aok, hlt, adr, Window, no_window, within}
use Rattle.machine.specs.Types.{status_number}
use Rattle.machine.specs.Memory.{lent}
use Rattle.machine.specs.Fetch.{fetch}
use Rattle.machine.specs.Plain.{Plain, is_stopped, fetched, steps}
use Rattle.clocked.specs.Prediction.{Core, core01}
use Rattle.clocked.specs.Charges.{due}
use Rattle.clocked.specs.Pipeline.{clocks}
use Rattle.clocked.specs.Computing.{computing}
use Rattle.account.specs.Statement.{Start, chosen, plain_from, piped_from, kept_of, Agrees}
use Rattle.account.specs.Seen.{waiting, wait, fetch_cycle, due_among, seen, Seen, Demand3Under}
use Rattle.account.specs.Decide.{touches, clear, all, untouched}
use Rattle.account.specs.DecideSeen.{same, is_alike, well_fetched, all_alike}
use Rattle.account.proofs.DecideSeen.{seen_decided}
use Rattle.account.proofs.Theorem.{demand3_seen}

-- codes ZF=1, start 0, all registers 0 but %rsp
pub from : Window → (rsp : ℕ) → List ℕ → Start
from w rsp b =
    record {
      settings = record { rule = 0; late = false; window = w };
      registers = replicate 4 0 ++ rsp ∷ replicate 10 0;
      codes = record { zf = true; sf = false; of = false };
      address = 0;
      memory = lent b;
    }

-- of the first k instructions: is no store into one of the next three; is each fetched alike; and after the cycle in which the last is due both
-- engines' status and last address, and how many the pipeline has retired
pub record Sights : Type 0 where
  pub threes : Bool
  pub alike : Bool
  pub cycle : ℕ
  pub plain : Status × ℕ
  pub piped : Status × ℕ
  pub retired : ℕ

pub sights : Start → ℕ → Sights
unfolding computing plain_from piped_from untouched touches clear all waiting wait fetch_cycle due_among seen same is_alike well_fetched all_alike
sights t k =
    let s = plain_from t in
    let p = (clocks (chosen t) (piped_from t) (due (chosen t) s k)).pipeline in
    record {
      threes = untouched 3 s k;
      alike = all_alike (chosen t) s k;
      cycle = due (chosen t) s k;
      plain = ((steps s k).machine.status, (steps s k).machine.last);
      piped = (p.status, p.last);
      retired = p.retired;
    }

-- AT EACH DISTANCE
-- rmmovq %rax, (9 + d)(%rcx), and nops: the store writes zeros, halts, over the d-th instruction after it and the seven behind that
pub distant : ℕ → List ℕ
distant d = 0x40 ∷ 0x01 ∷ (9 + d) ∷ replicate 7 0 ++ replicate 12 0x10

-- the plain engine stops there; the pipeline does so if it saw the store
pub halted : (threes alike : Bool) → (d cycle : ℕ) → Status → Sights
halted b a d c x = record { threes = b; alike = a; cycle = c; plain = (hlt, 9 + d); piped = (x, 9 + d); retired = suc d }

pub at_each_distance : (sights (from no_window 0 (distant 1)) 2 ≡ halted false false 1 6 aok) × (sights (from no_window 0 (distant 2)) 3 ≡ halted false false 2 7 aok)
    × (sights (from no_window 0 (distant 3)) 4 ≡ halted false false 3 8 aok) × (sights (from no_window 0 (distant 4)) 5 ≡ halted true true 4 9 hlt)
unfolding sights from distant halted
at_each_distance = (refl, refl, refl, refl)

-- into a window: behind the store every instruction is fetched late enough
pub into_a_window : (sights (from (within (0, 22)) 0 (distant 1)) 2 ≡ halted false true 1 9 hlt) × (sights (from (within (0, 22)) 0 (distant 2)) 3 ≡ halted false true 2 10 hlt)
    × (sights (from (within (0, 22)) 0 (distant 3)) 4 ≡ halted false true 3 11 hlt)
unfolding sights from distant halted
into_a_window = (refl, refl, refl)

-- WITHIN THREE, and yet seen: the plain engine halts at a, and so does the pipeline
pub met : (a cycle k : ℕ) → Sights
met a c k = record { threes = false; alike = true; cycle = c; plain = (hlt, a); piped = (hlt, a); retired = k }

-- 0: rmmovq %rax, 22(%rcx); 10: mrmovq (%rcx), %rdx; 20: addq %rdx, %rdx, which waits; 22: nop
pub waited : List ℕ
waited = 0x40 ∷ 0x01 ∷ 22 ∷ replicate 7 0 ++ (0x50 ∷ 0x21 ∷ replicate 8 0 ++ (0x60 ∷ 0x22 ∷ replicate 8 0x10))

pub a_wait_between : sights (from no_window 0 waited) 4 ≡ met 22 9 4
unfolding sights from waited met
a_wait_between = refl

-- 0: rmmovq %rax, 19(%rcx); 10: jne 0, guessed wrongly; 19: nop
pub guessed : List ℕ
guessed = 0x40 ∷ 0x01 ∷ 19 ∷ replicate 7 0 ++ (0x74 ∷ replicate 8 0 ++ replicate 8 0x10)

pub a_wrong_guess_between : sights (from no_window 0 guessed) 3 ≡ met 19 9 3
unfolding sights from guessed met
a_wrong_guess_between = refl

-- 0: rmmovq %rax, 11(%rcx); 10: ret, to 11; 11: nop
pub turning : List ℕ
turning = 0x40 ∷ 0x01 ∷ 11 ∷ replicate 7 0 ++ (0x90 ∷ replicate 8 0x10 ++ (11 ∷ replicate 7 0))

pub a_return_between : sights (from no_window 19 turning) 3 ≡ met 11 10 3
unfolding sights from turning met
a_return_between = refl

-- THE SAME INSTRUCTION
-- 0: irmovq C, %rdx; 10: rmmovq %rdx, 20(%rbx); 20: pushq, by its second byte, and nops. C's bytes are pushq %rcx, with the filler f, and nops
pub rewriting : ℕ → List ℕ
rewriting registers = 0x30 ∷ 0xf2 ∷ 0xa0 ∷ 0x1f ∷ replicate 6 0x10 ++ (0x40 ∷ 0x23 ∷ 20 ∷ replicate 7 0 ++ (0xa0 ∷ registers ∷ replicate 6 0x10))

-- the push fails, with %rsp 0
pub pushed : (alike : Bool) → Sights
pushed b = record { threes = false; alike = b; cycle = 7; plain = (adr, 20); piped = (adr, 20); retired = 3 }

-- the store writes what stands there; or another filler, which no fetch tells
pub the_same_again : (sights (from no_window 0 (rewriting 0x1f)) 3 ≡ pushed true) × (sights (from no_window 0 (rewriting 0x12)) 3 ≡ pushed true)
unfolding sights from rewriting pushed
the_same_again = (refl, refl)

-- 0: rmmovq %rax, 21(%rcx), of zeros; 10: rmmovq %rsp, 21(%rcx), of nops; 20: nop; 21: nop. It is fetched before either store, and is a nop again when
-- it is performed. A fetch that read memory behind the write of its own cycle would find a halt there
pub restoring : List ℕ
restoring = 0x40 ∷ 0x01 ∷ 21 ∷ replicate 7 0 ++ (0x40 ∷ 0x41 ∷ 21 ∷ replicate 7 0 ++ replicate 9 0x10)

pub written_and_restored : sights (from no_window 0x1010101010101010 restoring) 4
    ≡ record { threes = false; alike = true; cycle = 8; plain = (aok, 21); piped = (aok, 21); retired = 4 }
unfolding sights from restoring
written_and_restored = refl

-- THE EXCEPTION: where the plain engine fails at an access the pipeline may agree though the instruction was not fetched alike. It stops with pushq %rax, the
-- plain engine with pushq %rcx
pub other_push : sights (from no_window 0 (rewriting 0x0f)) 3 ≡ pushed false
unfolding sights from rewriting pushed
other_push = refl

pub other : Start
other = from no_window 0 (rewriting 0x0f)

pub agrees_unalike : Agrees core01 (plain_from other) (clocks core01 (piped_from other) 7) 7 3
unfolding sights from rewriting other kept_of
agrees_unalike =
    record {
      retired = refl;
      exactly = record { performed = performed; arrived = arrived; awaited = λ h. absurd (true≢false h) };
      addresses = refl;
      cycles = refl;
      kinds = refl;
      registers = refl;
      status = refl;
      last = refl;
      blame = refl;
      kept = λ h. absurd (true≢false h);
      running = λ h. absurd (true≢false h);
      stopped = λ _. (refl, refl, refl);
    }
  where
    s : Plain
    s = plain_from other

    performed : (k : ℕ) → k < 3 → is_stopped (steps s k) ≡ false
    performed zero q = refl
    performed (suc zero) q = refl
    performed (suc (suc zero)) q = refl
    performed (suc (suc (suc k))) q = absurd (omega arith)

    arrived : (k : ℕ) → k < 3 → due core01 s (suc k) ≤ 7
    arrived zero q = omega arith
    arrived (suc zero) q = omega arith
    arrived (suc (suc zero)) q = omega arith
    arrived (suc (suc (suc k))) q = absurd (omega arith)

-- so the pipeline agrees up to that cycle, and the premise does not hold
pub agrees_without : ((c : ℕ) → c ≤ 7 → (n : ℕ) × Agrees core01 (plain_from other) (clocks core01 (piped_from other) c) c n) × (Seen core01 (plain_from other) 3 → ⊥)
unfolding sights from rewriting other
agrees_without = (up, λ u. true≢false (sym ((seen_decided core01 (plain_from other) 3).1 u)))
  where
    up : (c : ℕ) → c ≤ 7 → (n : ℕ) × Agrees core01 (plain_from other) (clocks core01 (piped_from other) c) c n
    up c q = go (dec_lt c 7)
      where
        go : Dec (c < 7) → (n : ℕ) × Agrees core01 (plain_from other) (clocks core01 (piped_from other) c) c n
        go (yes z) = demand3_seen core01 other refl 1 ((seen_decided core01 (plain_from other) 2).0 refl) c (omega arith)
        go (no z) =
            let e : 7 ≡ c = omega arith in
            (3, subst (λ (d : ℕ). Agrees core01 (plain_from other) (clocks core01 (piped_from other) d) d 3) e agrees_unalike)

-- THE EDITS (must-fail/), each false and not only unproved: the premise with another cycle for the fetch
abbrev pub SeenIn : (Core → Plain → ℕ → ℕ) → Core → Plain → ℕ → Type 0
SeenIn cycle g s K =
    (n : ℕ) → n < K → is_stopped (steps s n) ≡ false
    → fetch (steps s (due_among g s (cycle g s (suc n)) n)).memory (steps s n).machine.address ≡ fetched (steps s n)

pub as_it_is : Demand3Under (SeenIn fetch_cycle)
unfolding seen
as_it_is = demand3_seen

-- seen_a_cycle_late: the store three before is taken for seen; the plain engine halts, and the pipeline goes on
pub a_cycle_late : Demand3Under (SeenIn (λ g s k. due g s k - (3 + wait g s k))) → ⊥
unfolding sights from distant
a_cycle_late d = off (d core01 start refl 3 alike 8 (omega arith))
  where
    start : Start
    start = from no_window 0 (distant 3)

    alike : SeenIn (λ g s k. due g s k - (3 + wait g s k)) core01 (plain_from start) 4
    alike zero q r = refl
    alike (suc zero) q r = refl
    alike (suc (suc zero)) q r = refl
    alike (suc (suc (suc zero))) q r = refl
    alike (suc (suc (suc (suc n)))) q r = absurd (omega arith)

    off : (n : ℕ) × Agrees core01 (plain_from start) (clocks core01 (piped_from start) 8) 8 n → ⊥
    off x =
        let four : 4 ≡ x.0 = x.1.retired in
        let clash : status_number aok ≡ status_number hlt
        = ap status_number (x.1.status ∙ ap (λ (n : ℕ). (steps (plain_from start) n).machine.status) (sym four)) in
        omega (arith, clash)

-- seen_without_the_wait: 0: rmmovq %rsp, 21(%rcx); 10: nop; 11: mrmovq (%rcx), %rdx; 21: nop, which the store makes addq %rdx, %rdx. That waits, so
-- it is fetched a cycle before the store, and the pipeline retires the nop in cycle 8, where the addq is due in cycle 9
pub unwaited : List ℕ
unwaited = 0x40 ∷ 0x41 ∷ 21 ∷ replicate 7 0 ++ (0x10 ∷ 0x50 ∷ 0x21 ∷ replicate 8 0 ++ replicate 8 0x10)

pub without_the_wait : Demand3Under (SeenIn (λ g s k. due g s k - 4)) → ⊥
unfolding sights from unwaited
without_the_wait d = off (d core01 start refl 3 alike 8 (omega arith))
  where
    start : Start
    start = from no_window 0x1010101010102260 unwaited

    alike : SeenIn (λ g s k. due g s k - 4) core01 (plain_from start) 4
    alike zero q r = refl
    alike (suc zero) q r = refl
    alike (suc (suc zero)) q r = refl
    alike (suc (suc (suc zero))) q r = refl
    alike (suc (suc (suc (suc n)))) q r = absurd (omega arith)

    off : (n : ℕ) × Agrees core01 (plain_from start) (clocks core01 (piped_from start) 8) 8 n → ⊥
    off x =
        let four : 4 ≡ x.0 = x.1.retired in
        let late : 9 ≤ 8 = x.1.exactly.arrived 3 (omega arith) in
        omega arith

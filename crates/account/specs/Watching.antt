-- The watch one instruction at a time, with three instructions to remember: in linear time. A store is undone by the word that it wrote over.
use Prim.Native.Nat.{ℕ, zero, suc, ◌+◌}
use Rattle.std.specs.Prelude.{Bool, ◌&&◌, ◌≡◌, ltb, eqb}
use Rattle.std.proofs.Math.Bool.{false, cond, not}
use Rattle.account.specs.Names.{Kept, none_kept, last_kept}
use Rattle.machine.specs.Memory.{Memory, code_end, inside, load, store}
use Rattle.machine.specs.Fetch.{fetch, size_at}
use Rattle.machine.specs.Stages.{stores, access_address}
use Rattle.machine.specs.Plain.{Plain, is_stopped, fetched, executed, accessed, step, steps}
use Rattle.clocked.specs.Prediction.{Core}
use Rattle.clocked.specs.Charges.{amount, reason_from, retired_of}
use Rattle.account.specs.Seen.{waiting}
use Rattle.account.specs.Decide.{clear}
use Rattle.account.specs.DecideSeen.{same, well_fetched}
use Rattle.account.specs.Watch.{first_failing}

-- WHAT IS REMEMBERED of an instruction: when it is due, and of its store whether there is one, where, and the word that it wrote over
pub record Past : Type 0 where
  pub due : ℕ
  pub stored : Bool
  pub at : ℕ
  pub over : ℕ

-- before the first there is nothing
unfoldable pub nothing : Past
nothing = record { due = 0; stored = false; at = 0; over = 0 }

-- the instruction performed at s, due in cycle d
unfoldable pub past_of : Plain → ℕ → Past
past_of s d =
    let a = access_address (executed s) in
    record { due = d; stored = stores (fetched s) && inside s.memory a; at = a; over = load s.memory a }

-- memory without it
unfoldable pub without : Past → Memory → Memory
without p m = cond p.stored (store m p.at p.over) m

-- memory as a fetch finds it whose instruction is due in cycle d after a wait of w: without the stores, latest first, of those due too late for it
unfoldable pub unseen : (d w : ℕ) → Past → Bool
unseen d w p = ltb d (p.due + 4 + w)

unfoldable pub found : (d w : ℕ) → (one two three : Past) → Memory → Memory
found d w one two three m =
    let m1 = without one m in
    let m2 = without two m1 in
    cond (unseen d w one) (cond (unseen d w two) (cond (unseen d w three) (without three m2) m2) m1) m

-- does its store write a byte of the instruction performed at t
unfoldable pub reaches : Past → Plain → Bool
reaches p t =
    let b = t.machine.address in
    let n = code_end t.memory b in
    p.stored && (ltb p.at (b + size_at t.memory b) && (ltb b (p.at + 8) && (ltb p.at n && ltb b n)))

-- ONE INSTRUCTION FURTHER
pub record Watching : Type 0 where
  pub state : Plain
  pub performed : ℕ
  pub kept : Kept
  pub due : ℕ
  pub one : Past
  pub two : Past
  pub three : Past
  pub written : ℕ
  pub mistaken : ℕ

unfoldable pub watch_start : Plain → Watching
watch_start s =
    record { state = s; performed = 0; kept = none_kept; due = 4; one = nothing; two = nothing; three = nothing; written = 0; mistaken = 0 }

-- k, where the test fails and there is none earlier
unfoldable pub noted : Bool → (k earlier : ℕ) → ℕ
noted holds k earlier = cond (eqb earlier 0) (cond holds 0 k) earlier

unfoldable pub watch_step : Core → Watching → Watching
watch_step g w =
    let s = w.state in
    let i = fetched s in
    let why = reason_from g w.kept i in
    let d = w.due + 1 + amount why in
    let m = found d (waiting why) w.one w.two w.three s.memory in
    record {
      state = step s;
      performed = w.performed + 1;
      kept = last_kept (retired_of (accessed s));
      due = d;
      one = past_of s d;
      two = w.one;
      three = w.two;
      written = noted (not (reaches w.three s) && (not (reaches w.two s) && not (reaches w.one s))) (w.performed + 1) w.written;
      mistaken = noted (same (fetch m s.machine.address) i) (w.performed + 1) w.mistaken;
    }

unfoldable pub watch : Core → Watching → Watching
watch g w = cond (is_stopped w.state) w (watch_step g w)

unfoldable pub watches : Core → Plain → ℕ → Watching
watches g s zero = watch_start s
watches g s (suc n) = watch g (watches g s n)

-- WHAT IT HAS FOUND after n instructions
pub record Watched (g : Core) (s : Plain) (n : ℕ) (w : Watching) : Type 0 where
  pub state : w.state ≡ steps s n
  pub written : w.written ≡ first_failing (clear 3 s) n
  pub mistaken : w.mistaken ≡ first_failing (well_fetched g s) n

-- What holds while a run goes on, from its first clock to its end. Assumes nothing.
use mathlib.Core.Path.{◌≡◌, refl, ap, sym, ◌∙◌}
use mathlib.Core.Bool.{Bool, true, false}
use mathlib.Core.List.{List, [], ◌++◌, append-nil}
use Prim.Native.Nat.{ℕ, ◌+◌, ◌-◌, ◌*◌, ◌≤◌, ◌<◌}
use native.Mathlib.Numerals.{add-one}
use native.Mathlib.Omega.{arith}
use lib.Dec.{ltb}
use lib.ListN.{length, length-append}
use borrow.Author.Tests.{ltb-false}
use Rattle.clock_laws.specs.Registers.{length_after_w}
use Rattle.laws.specs.Tests.{neither}
use Rattle.clock_laws.specs.Stops.{stays}
use Rattle.answers.specs.Logs.{laid_more}
use Rattle.clocked.specs.declared.Settings.{Settings}
use Rattle.clocked.specs.declared.Pipeline.{Pipeline}
use Rattle.machine.specs.declared.Status.{Status}
use Rattle.machine.specs.declared.Blame.{Blame}
use Rattle.clocked.specs.declared.Kinds.{Kinds}
use Rattle.clocked.specs.Record.{Kept}
use Rattle.clocked.specs.Record.{StageW}
use Rattle.clocked.specs.Record.{bubble_w, in_w}
use Rattle.machine.specs.Types.{is_bad}
use Rattle.machine.specs.Types.{no_window}
use Rattle.machine.specs.Memory.{Memory, through}
use Rattle.clocked.specs.Prediction.{Core, core_of}
use Rattle.clocked.specs.declared.Reason.{Reason}
use Rattle.clocked.specs.Record.{Option, free, because}
use Rattle.clocked.specs.declared.Reason.TheVariants.{Waited as waited, WronglyGuessed as wrongly_guessed, Returned as returned, Patched as patched}
use Rattle.clocked.specs.Charges.{counted, reason_from}
use Rattle.clocked.specs.Pipeline.{Piped, piped_of, bad_in_w, memory_after, registers_after, retired_after, kinds_after, logged, clock, clocks}
use Rattle.machine.specs.Runs.{laid}
use Rattle.clocked.specs.PipeRuns.{counts_refused, pipe_limit, pipe_answer, pipe_done}
use Rattle.retiring.specs.declared.Tally.{Tally}
use Rattle.retiring.specs.Retiring.{Small, retires, status_after, tally_after}
use Rattle.flow.specs.declared.Flow.{Flow}
use Rattle.flow.specs.Moving.{ahead_of, shifted_of, flow_after}
use Rattle.pipe.specs.Parts.{flow_of, tally_of, whole, blame_in, noted}
use Rattle.pipe.proofs.Clocks.{piped, after, bad_after, stops, goes}

laid_noted : (w : StageW) (es log : List ℕ) (x : ℕ) → noted (retires w) (length es) x (laid es log) ≡ laid (es ++ logged w x) log
unfolding noted retires logged
laid_noted bubble_w es log x = rw append-nil
laid_noted (in_w w) es log x = sym (laid_more es log x)

logged_count : (w : StageW) (es : List ℕ) (x f n : ℕ) → f + length es ≡ n → f + length (es ++ logged w x) ≡ retired_after w n
unfolding logged retired_after
logged_count bubble_w es x f n h = rw append-nil h
logged_count (in_w w) es x f n h = rw length-append (omega arith)

-- COUNTS
pub record Under (n : ℕ) (t : Kinds) : Type 0 where
  pub loaduse : t.loaduse < n
  pub mispredict : t.mispredict < n
  pub returned : t.returned < n
  pub patched : t.patched < n

counted_small : (n : ℕ) (t : Kinds) (r : Option Reason) → Under n t → Under (n + 3) (counted t r)
unfolding counted
counted_small n t free h = record { loaduse = omega arith; mispredict = omega arith; returned = omega arith; patched = omega arith }
counted_small n t (because waited) h = record { loaduse = omega arith; mispredict = omega arith; returned = omega arith; patched = omega arith }
counted_small n t (because wrongly_guessed) h = record { loaduse = omega arith; mispredict = omega arith; returned = omega arith; patched = omega arith }
counted_small n t (because returned) h = record { loaduse = omega arith; mispredict = omega arith; returned = omega arith; patched = omega arith }
counted_small n t (because patched) h = record { loaduse = omega arith; mispredict = omega arith; returned = omega arith; patched = omega arith }

kinds_small : (g : Core) (n : ℕ) (w : StageW) (k : Kept) (t : Kinds) → Under n t → Under (n + 3) (kinds_after g w k t)
unfolding kinds_after
kinds_small g n bubble_w k t h = record { loaduse = omega arith; mispredict = omega arith; returned = omega arith; patched = omega arith }
kinds_small g n (in_w w) k t h = counted_small n t (reason_from g k w.instruction) h

retired_small : (w : StageW) (k n : ℕ) → k < n → retired_after w k < n + 3
unfolding retired_after
retired_small bubble_w k n h = omega arith
retired_small (in_w w) k n h = omega arith

pub tally_small : (g : Core) (n : ℕ) (t : Tally) (w : StageW) → Small n t → Small (n + 3) (tally_after g t w)
unfolding tally_after
tally_small g n t w h =
    let under = kinds_small g n w t.kept t.kinds (record { loaduse = h.loaduse; mispredict = h.mispredict; returned = h.returned; patched = h.patched }) in
    record {
      retired = retired_small w t.retired n h.retired;
      cycles = omega (arith, h.cycles);
      loaduse = under.loaduse;
      mispredict = under.mispredict;
      returned = under.returned;
      patched = under.patched;
    }

small_first : (k : Pipeline) → counts_refused k ≡ false → k.cycles ≤ pipe_limit → Small 262146 (tally_of k)
unfolding counts_refused tally_of
small_first k h c =
    let all = neither (ltb k.cycles k.retired) _ h in
    let kinds = neither (ltb k.cycles k.kinds.loaduse) _ all.1 in
    let guesses = neither (ltb k.cycles k.kinds.mispredict) _ kinds.1 in
    let last = neither (ltb k.cycles k.kinds.returned) _ guesses.1 in
    record {
      retired = omega (arith, ltb-false k.cycles k.retired all.0);
      cycles = omega arith;
      loaduse = omega (arith, ltb-false k.cycles k.kinds.loaduse kinds.0);
      mispredict = omega (arith, ltb-false k.cycles k.kinds.mispredict guesses.0);
      returned = omega (arith, ltb-false k.cycles k.kinds.returned last.0);
      patched = omega (arith, ltb-false k.cycles k.kinds.patched last.1);
    }

pub small_enough : (n : ℕ) (t : Tally) → n < pipe_limit → Small (262146 + n * 3) t → Small 2000000 t
small_enough n t h s = record { retired = omega arith; cycles = omega arith; loaduse = omega arith; mispredict = omega arith; returned = omega arith; patched = omega arith }

-- FROM CLOCK TO CLOCK
-- after n clocks of a run from p₀ that began with first retirements and the logs a₀ and y₀
pub record Here (s : Settings) (p₀ : Piped) (first : ℕ) (a₀ y₀ : List ℕ) (n : ℕ) (f : Flow) (t : Tally) (x : Status) (r : List ℕ) (z : Blame)
    (m : Memory) (a y : List ℕ) : Type 0 where
  pub entries : List ℕ
  pub times : List ℕ
  pub state : clocks (core_of s) p₀ n ≡ piped (whole s f t x r z) m entries times
  pub addresses : a ≡ laid entries a₀
  pub cycles : y ≡ laid times y₀
  pub entered : first + length entries ≡ t.retired
  pub timed : first + length times ≡ t.retired
  pub small : Small (262146 + n * 3) t
  pub ahead : f.ahead ≡ ahead_of (core_of s) f.m f.w
  pub long : length r ≡ 15

pub here_first : {f : Flow} {t : Tally} {x : Status} {r : List ℕ} {z : Blame} {a y : List ℕ} (k : Pipeline) (m : Memory) → f ≡ flow_of k
    → length r ≡ 15 → t ≡ tally_of k → counts_refused k ≡ false → k.cycles ≤ pipe_limit
    → Here k.settings (piped_of (whole k.settings f t x r z) m) k.retired a y 0 f t x r z (through k.settings.window m) a y
unfolding clocks laid flow_of tally_of whole
here_first k m i l e h c =
    record {
      entries = [];
      times = [];
      state = refl;
      addresses = refl;
      cycles = refl;
      entered = rw e (omega arith);
      timed = rw e (omega arith);
      small = rw e (small_first k h c);
      ahead = rw i;
      long = l;
    }

-- one clock more of a machine that has not stopped; b, q and v are what the code found bad, retiring and bad in W
module _ {s : Settings} {p₀ : Piped} {first : ℕ} {a₀ y₀ : List ℕ} {n : ℕ} {f : Flow} {t t' : Tally} {x x' : Status} {r : List ℕ} {z : Blame}
    {m : Memory} {a y a' y' : List ℕ} {b q v : Bool}
    (h : Here s p₀ first a₀ y₀ n f t x r z m a y) (eb : b ≡ is_bad x) (good : b ≡ false) (eq : q ≡ retires f.w) (et : t' ≡ tally_after (core_of s) t f.w)
    (ex : x' ≡ status_after f.w)
    (ea : a' ≡ noted q (t.retired - first) t'.last a) (ey : y' ≡ noted q (t.retired - first) t'.cycles y) (ev : v ≡ bad_in_w f.w) where
  here_after : (f' : Flow) (r' : List ℕ) (z' : Blame) (m' : Memory)
      → clock (core_of s) (piped (whole s f t x r z) m h.entries h.times) ≡ after s t h.entries h.times f.w f' r' z' m'
      → f'.ahead ≡ ahead_of (core_of s) f'.m f'.w → length r' ≡ 15 → Here s p₀ first a₀ y₀ (n + 1) f' t' x' r' z' m' a' y'
  unfolding clocks tally_after
  here_after f' r' z' m' e i l =
      let at : t.retired - first ≡ length h.entries = omega (arith, h.entered) in
      let at_time : t.retired - first ≡ length h.times = omega (arith, h.timed) in
      let more : 262146 + (n + 1) * 3 ≡ 262146 + n * 3 + 3 = omega arith in
      record {
        entries = h.entries ++ logged f.w t'.last;
        times = h.times ++ logged f.w t'.cycles;
        state = rw add-one (ap (clock (core_of s)) h.state ∙ (e ∙ rw (et, ex)));
        addresses = cc (laid_noted f.w h.entries a₀ t'.last);
        cycles = cc (laid_noted f.w h.times y₀ t'.cycles);
        entered = cc (logged_count f.w h.entries t'.last first t.retired h.entered);
        timed = cc (logged_count f.w h.times t'.cycles first t.retired h.timed);
        small = rw (et, more) (tally_small (core_of s) (262146 + n * 3) t f.w h.small);
        ahead = i;
        long = l;
      }

  pub here_next : {f' : Flow} {r' : List ℕ} {m' : Memory} → v ≡ false → f' ≡ flow_after (core_of s) f r m → r' ≡ registers_after f.w r → m' ≡ memory_after f.m m
      → Here s p₀ first a₀ y₀ (n + 1) f' t' x' r' z m' a' y'
  unfolding flow_after shifted_of
  here_next w ef er em = rw (ef, er, em) (here_after _ _ _ _ (goes s f t x r z m h.entries h.times (cc) (cc)) refl (length_after_w f.w r ∙ h.long))

  pub here_stopped : {z' : Blame} → v ≡ true → z' ≡ blame_in f.w m → Here s p₀ first a₀ y₀ (n + 1) f t' x' r z' m a' y' × (is_bad x' ≡ true)
  here_stopped w ez = (rw ez (here_after f r _ m (stops s f t x r z m h.entries h.times (cc) (cc)) h.ahead h.long), cc (bad_after f.w))

-- THE END
pub same_start : {k : Pipeline} {f : Flow} {t : Tally} (m : Memory) → f ≡ flow_of k → t ≡ tally_of k
    → piped_of (whole k.settings f t k.status k.registers k.blame) m ≡ piped_of k m
unfolding whole flow_of tally_of
same_start m ef et = rw (ef, et)

-- by each way out of the loop the variables primed are those that it left
module _ {s : Settings} {p₀ : Piped} {k : Pipeline} {first : ℕ} {a₀ y₀ : List ℕ} {n : ℕ} {f : Flow} {t t' : Tally} {x x' : Status}
    {r : List ℕ} {z z' : Blame} {m : Memory} {a y a' y' : List ℕ} {p : Pipeline} (m₀ : Memory) (budget : ℕ) (from : p₀ ≡ piped_of k m₀)
    (h : Here s p₀ first a₀ y₀ n f t x r z m a y) (to : p ≡ whole s f t' x' r z') (ez : z' ≡ z) (ea : a' ≡ a) (ey : y' ≡ y) (et : t' ≡ t) (ex : x' ≡ x) where
  pub at_budget : n ≡ budget → pipe_answer 0 p (through no_window m) a' y' ≡ pipe_done (clocks (core_of s) (piped_of k m₀) budget) a₀ y₀
  unfolding pipe_done
  at_budget e = cc

  pub at_stop : n ≤ budget → is_bad x ≡ true → pipe_answer 0 p (through no_window m) a' y' ≡ pipe_done (clocks (core_of s) (piped_of k m₀) budget) a₀ y₀
  unfolding pipe_done whole
  at_stop l b =
      let bad : is_bad (clocks (core_of s) p₀ n).pipeline.status ≡ true = rw h.state b in
      let e : budget - n + n ≡ budget = omega arith in
      cc (stays (core_of s) p₀ n (budget - n) bad)

-- "Running a then b cycles equals running a + b, logs joined, where none of the three is refused." A theorem of the definitions, at any
-- settings: `joined`, and `unlogged` for runs without logs. Assumes nothing.
use Rattle.std.specs.Prelude.{◌≡◌, Bool, eqb, length, take, drop}
use Rattle.std.proofs.Math.Path.{refl, ap, sym}
use Rattle.std.proofs.Common.{◌∙◌, add-suc, arith}
use Rattle.std.proofs.Math.Bool.{true, false, cond}
use mathlib.Core.List.{List, [], ◌∷◌, ◌++◌, append_assoc, append-nil}
use Prim.Native.Nat.{ℕ, zero, suc, ◌+◌, ◌-◌}
use Rattle.std.proofs.Math.Nat.{add-zero}
use Rattle.std.proofs.Math.ListN.{length-append}
use Rattle.machine.specs.Types.{no_window}
use Rattle.clocked.specs.declared.Settings.{Settings}
use Rattle.clocked.specs.declared.Pipeline.{Pipeline}
use Rattle.clocked.specs.Record.{StageD}
use Rattle.clocked.specs.Record.{bubble_d, in_d}
use Rattle.clocked.specs.Record.{StageW}
use Rattle.clocked.specs.Record.{bubble_w, in_w}
use Rattle.machine.specs.Types.{is_bad}
use Rattle.machine.specs.Memory.{Memory, size, through}
use Rattle.clocked.specs.Prediction.{Core, core_of}
use Rattle.clocked.specs.Pipeline.{Piped, piped_of, executing, source, source_m, source_w, waits, mispredicts, returns, fails, cancels, fetch_address, fetched_now, next_f}
use Rattle.clocked.specs.Pipeline.{next_d, next_e, next_m, next_codes, decoded_d, retired_after, logged, advanced, stopped_in, clock_by, clock, clocks}
use Rattle.machine.specs.Runs.{laid, size_refused, budget_refused, lowest}
use Rattle.clocked.specs.PipeRuns.{pipe_refusal, PipeAnswer, pipe_answer, pipe_done, pipe_by, pipe_run, pipe_run_unlogged}
use Rattle.clock_laws.specs.Settings.{clocks_keep}
use Rattle.clock_laws.specs.Window.{clocks_see}
use Rattle.answers.specs.Logs.{laid_joined}
use Rattle.answers.specs.Refusals.{ran}
use Rattle.answers.specs.Joined.{Engine, moved}

-- with entries before those of p
before : List ℕ → List ℕ → Piped → Piped
before es ys p = record { pipeline = p.pipeline; memory = p.memory; address_log = es ++ p.address_log; cycle_log = ys ++ p.cycle_log }

module _ (g : Core) (es ys : List ℕ) where
  decoded_before : (p : Piped) (d : StageD) → decoded_d g (before es ys p) d ≡ decoded_d g p d
  unfolding before executing decoded_d source source_m source_w
  decoded_before p bubble_d = refl
  decoded_before p (in_d i) = refl

  advanced_before : (p : Piped) → advanced g (before es ys p) ≡ before es ys (advanced g p)
  unfolding before executing advanced waits mispredicts returns fails cancels fetch_address fetched_now next_f next_d next_e next_m next_codes
  advanced_before p = rw (decoded_before p p.pipeline.d, append_assoc es, append_assoc ys)

  by_before : (p : Piped) (w : StageW) → clock_by g (before es ys p) w ≡ before es ys (clock_by g p w)
  unfolding clock_by stopped_in before
  by_before p bubble_w = advanced_before p
  by_before p (in_w w) = go (is_bad w.status)
    where
      go : (b : Bool) → cond b (stopped_in g (before es ys p) w) (advanced g (before es ys p)) ≡ before es ys (cond b (stopped_in g p w) (advanced g p))
      go true = simp append_assoc
      go false = advanced_before p

  clock_before : (p : Piped) → clock g (before es ys p) ≡ before es ys (clock g p)
  unfolding clock before
  clock_before p = go (is_bad p.pipeline.status)
    where
      go : (b : Bool) → cond b (before es ys p) (clock_by g (before es ys p) p.pipeline.w) ≡ before es ys (cond b p (clock_by g p p.pipeline.w))
      go true = refl
      go false = by_before p p.pipeline.w

  clocks_before : (p : Piped) (n : ℕ) → clocks g (before es ys p) n ≡ before es ys (clocks g p n)
  unfolding clocks
  clocks_before p zero = refl
  clocks_before p (suc n) = ap (clock g) (clocks_before p n) ∙ clock_before (clocks g p n)

-- COUNTS: each retirement is logged once
pub record Even (p q : Piped) : Type 0 where
  pub addresses : p.pipeline.retired + length q.address_log ≡ q.pipeline.retired + length p.address_log
  pub cycles : p.pipeline.retired + length q.cycle_log ≡ q.pipeline.retired + length p.cycle_log

even : (p : Piped) → Even p p
even p = record { addresses = refl; cycles = refl }

module _ (g : Core) where
  one_logged : (w : StageW) (es : List ℕ) (x n : ℕ) → n + length (es ++ logged w x) ≡ retired_after w n + length es
  unfolding logged retired_after
  one_logged bubble_w es x n = rw append-nil
  one_logged (in_w w) es x n = rw length-append (omega arith)

  advanced_even : (p : Piped) → Even p (advanced g p)
  unfolding advanced
  advanced_even p =
      let k = p.pipeline in
      record { addresses = one_logged k.w p.address_log _ k.retired; cycles = one_logged k.w p.cycle_log _ k.retired }

  by_even : (p : Piped) (w : StageW) → Even p (clock_by g p w)
  unfolding clock_by stopped_in
  by_even p bubble_w = advanced_even p
  by_even p (in_w w) = go (is_bad w.status)
    where
      go : (b : Bool) → Even p (cond b (stopped_in g p w) (advanced g p))
      go true = record { addresses = rw length-append (omega arith); cycles = rw length-append (omega arith) }
      go false = advanced_even p

  clock_even : (p : Piped) → Even p (clock g p)
  unfolding clock
  clock_even p = go (is_bad p.pipeline.status)
    where
      go : (b : Bool) → Even p (cond b p (clock_by g p p.pipeline.w))
      go true = even p
      go false = by_even p p.pipeline.w

  clocks_even : (p : Piped) (n : ℕ) → Even p (clocks g p n)
  unfolding clocks
  clocks_even p zero = even p
  clocks_even p (suc n) =
      let e = clocks_even p n in
      let f = clock_even (clocks g p n) in
      record { addresses = omega (arith, e.addresses, f.addresses); cycles = omega (arith, e.cycles, f.cycles) }

  -- FURTHER CLOCKS
  clocks_add : (p : Piped) (a b : ℕ) → clocks g p (a + b) ≡ clocks g (clocks g p a) b
  unfolding clocks
  clocks_add p a zero = rw add-zero
  clocks_add p a (suc b) = rw (add-suc a b) (ap (clock g) (clocks_add p a b))

  -- memory is seen through the record's window, and stays so: begun anew from record and memory, the state is the same
  anew : (k : Pipeline) (m : Memory) (n : ℕ)
      → let s = clocks g (piped_of k m) n in s ≡ before s.address_log s.cycle_log (piped_of s.pipeline s.memory)
  unfolding before
  anew k m n =
      let s = clocks g (piped_of k m) n in
      let seen = clocks_see g (piped_of k m) n ∙ sym (ap (λ (t : Settings). t.window) (clocks_keep g (piped_of k m) n)) in
      simp append-nil (ap (λ w. record { pipeline = s.pipeline; memory = through w s.memory; address_log = s.address_log; cycle_log = s.cycle_log }) seen)

  clocks_join : (k : Pipeline) (m : Memory) (a b : ℕ)
      → let s = clocks g (piped_of k m) a in
      clocks g (piped_of k m) (a + b) ≡ before s.address_log s.cycle_log (clocks g (piped_of s.pipeline s.memory) b)
  clocks_join k m a b =
      let s = clocks g (piped_of k m) a in
      clocks_add (piped_of k m) a b
      ∙ (ap (λ (t : Piped). clocks g t b) (anew k m a) ∙ clocks_before g s.address_log s.cycle_log (piped_of s.pipeline s.memory) b)

-- a run that is not refused, with logs or without
done : (logs : List ℕ) (k : Pipeline) (m : Memory) (n : ℕ) (a y : List ℕ) → (pipe_by logs k m n a y).number ≡ 0
    → pipe_by logs k m n a y ≡ pipe_done (clocks (core_of k.settings) (piped_of k m) n) a y
unfolding pipe_by
done logs k m n a y h = ran (λ o. o.number) (pipe_refusal k (size m) n logs) _ _ refl h

done_run : (k : Pipeline) (m : Memory) (n : ℕ) (a y : List ℕ) → (pipe_run k m n a y).number ≡ 0
    → pipe_run k m n a y ≡ pipe_done (clocks (core_of k.settings) (piped_of k m) n) a y
unfolding pipe_run
done_run k m n a y h = done (length a ∷ length y ∷ []) k m n a y h

-- THE THEOREM
-- the answers f, h and b of the first run, the second and both, over the states s and r in which the first two end
from_states : (s r : Piped) (n : ℕ) (log times : List ℕ) (f h b : PipeAnswer) → f.addresses ≡ laid s.address_log log → f.cycles ≡ laid s.cycle_log times
    → n ≡ length s.address_log → n ≡ length s.cycle_log → h ≡ pipe_done r (drop n f.addresses) (drop n f.cycles)
    → b ≡ pipe_done (before s.address_log s.cycle_log r) log times
    → b ≡ pipe_answer 0 h.pipeline h.memory (take n f.addresses ++ h.addresses) (take n f.cycles ++ h.cycles)
unfolding pipe_done before
from_states s r n log times f h b fa fy ea ey eh eb =
    rw (eb, eh) (cc (laid_joined s.address_log r.address_log log, laid_joined s.cycle_log r.cycle_log times))

-- the first run, its retirements, the second run, from where the first one left it and with the places that it left in the logs, and
-- the run of both budgets
module _ (k : Pipeline) (m : Memory) (a b : ℕ) (log times : List ℕ) where
  abbrev pub first : PipeAnswer
  first = pipe_run k m a log times

  abbrev pub retirements : ℕ
  retirements = first.pipeline.retired - k.retired

  abbrev pub second : PipeAnswer
  second = pipe_run first.pipeline first.memory b (drop retirements first.addresses) (drop retirements first.cycles)

  abbrev pub both : PipeAnswer
  both = pipe_run k m (a + b) log times

  pub joined : first.number ≡ 0 → second.number ≡ 0 → both.number ≡ 0
      → both
      ≡ pipe_answer 0 second.pipeline second.memory (take retirements first.addresses ++ second.addresses)
      (take retirements first.cycles ++ second.cycles)
  unfolding pipe_done
  joined hf hs hb =
      let g = core_of k.settings in
      let s = clocks g (piped_of k m) a in
      let e = clocks_even g (piped_of k m) a in
      let f = done_run k m a log times hf in
      let p : first.pipeline ≡ s.pipeline = ap (λ (t : PipeAnswer). t.pipeline) f in
      let y : first.memory ≡ through no_window s.memory = ap (λ (t : PipeAnswer). t.memory) f in
      let n = ap (λ (x : Pipeline). x.retired) p in
      from_states s (clocks (core_of first.pipeline.settings) (piped_of first.pipeline first.memory) b) retirements log times first second both
      (ap (λ (t : PipeAnswer). t.addresses) f) (ap (λ (t : PipeAnswer). t.cycles) f) (omega (arith, e.addresses, n)) (omega (arith, e.cycles, n))
      (done_run first.pipeline first.memory b (drop retirements first.addresses) (drop retirements first.cycles) hs)
      (rw (p, y)
      (done_run k m (a + b) log times hb
      ∙ (ap (λ (t : Piped). pipe_done t log times) (clocks_join g k m a b)
      ∙ ap (λ (x : Settings). pipe_done (before s.address_log s.cycle_log (clocks (core_of x) (piped_of s.pipeline s.memory) b)) log times)
      (sym (clocks_keep g (piped_of k m) a)))))

-- WITHOUT LOGS
-- record and memory as an answer gives them back
abbrev given : Pipeline × Memory → Pipeline × Memory
given x = (x.0, through no_window x.1)

-- after a clock
unfoldable pub clocked : Pipeline × Memory → Pipeline × Memory
clocked x = let p = clock (core_of x.0.settings) (piped_of x.0 x.1) in given (p.pipeline, p.memory)

-- what so many clocks leave, though each logs
clocks_moved : (k : Pipeline) (m : Memory) (n : ℕ)
    → let p = clocks (core_of k.settings) (piped_of k m) n in given (p.pipeline, p.memory) ≡ given (moved clocked (k, m) n)
unfolding clocks moved clocked before
clocks_moved k m zero = refl
clocks_moved k m (suc n) =
    let g = core_of k.settings in
    let p = clocks g (piped_of k m) n in
    let bare = piped_of p.pipeline p.memory in
    ap (λ (t : Piped). given (t.pipeline, t.memory)) (ap (clock g) (anew g k m n) ∙ clock_before g p.address_log p.cycle_log bare)
    ∙ (ap (λ (x : Settings). let t = clock (core_of x) bare in given (t.pipeline, t.memory)) (sym (clocks_keep g (piped_of k m) n))
    ∙ ap clocked (clocks_moved k m n))

-- a budget of 0 is refused
none_made : (k : Pipeline) (m : Memory) → (pipe_run_unlogged k m 0).number ≡ 0 → ⊥
unfolding pipe_run_unlogged pipe_by pipe_refusal lowest budget_refused
none_made k m h = go (size_refused (size m)) h
  where
    go : (b : Bool) → let n : ℕ = cond b 1 3 in
        (cond (eqb n 0) (pipe_done (clocks (core_of k.settings) (piped_of k m) 0) [] []) (pipe_answer n k m [] [])).number ≡ 0 → ⊥
    go true h = omega (arith, h)
    go false h = omega (arith, h)

pub ran_moved : (k : Pipeline) (m : Memory) (n : ℕ) → (pipe_run_unlogged k m n).number ≡ 0
    → let o = pipe_run_unlogged k m n in (o.pipeline, o.memory) ≡ moved clocked (k, m) n
unfolding pipe_run_unlogged pipe_done moved clocked
ran_moved k m zero h = absurd (none_made k m h)
ran_moved k m (suc n) h = ap (λ (o : PipeAnswer). (o.pipeline, o.memory)) (done [] k m (suc n) [] [] h) ∙ clocks_moved k m (suc n)

-- the pipelined engine without logs: `answers` `Joined` `joined` and `ones_join` hold of it, and a run of 1 is a clock
unfoldable pub unlogged : Engine
unlogged =
    record {
      State = Pipeline × Memory;
      move = clocked;
      run = λ x n. let o = pipe_run_unlogged x.0 x.1 n in (o.number, (o.pipeline, o.memory));
      moves = λ x n h. ran_moved x.0 x.1 n h;
    }

-- What an honest pipelined run writes within the premise are the first lines of the plain history.
use Prim.Native.Nat.{ℕ, zero, suc, ◌+◌, ◌-◌, ◌≤◌}
use Rattle.std.specs.Prelude.{Bool, cond, ◌≡◌, length}
use Rattle.std.proofs.Math.Bool.{true, false}
use Rattle.std.proofs.Common.{true≢false, ◌∙◌, arith}
use mathlib.Core.List.{List, [], ◌++◌, append-nil, append_assoc}
use Rattle.std.proofs.Math.Path.{refl, ap, sym, subst}
use Rattle.machine.specs.declared.Accessed.{Accessed}
use Rattle.clocked.specs.Record.{StageW}
use Rattle.clocked.specs.Record.{bubble_w, in_w}
use Rattle.clocked.specs.declared.Retired.{Retired}
use Rattle.clocked.specs.Record.{last_kept}
use Rattle.machine.specs.Types.{is_bad, is_set}
use Rattle.machine.specs.Plain.{Plain, plain_start, is_stopped, accessed, performed, stopped_by, step, steps}
use Rattle.clocked.specs.Prediction.{Core}
use Rattle.clocked.specs.Charges.{due, retired_of}
use Rattle.clocked.specs.Pipeline.{Piped, pipe_start, clock, clock_by, clocks, advanced, stopped_in, last_after, retired_after, kept_after}
use Rattle.clocked.specs.Premise.{Premise}
use Rattle.account.specs.Statement.{Start, plain_from, piped_from, Agrees, kept_of}
use Rattle.account.proofs.Theorem.{demand3}
use Rattle.account.proofs.Uses.{on_time as retires_on_time}
use Rattle.account.proofs.Sight.{premise_seen}
use Rattle.trace.specs.Line.{target_of}
use Rattle.trace.specs.Text.{plain_line, plain_text, line_in, line_now, pipe_text}

-- A STEP OF A RUNNING MACHINE
module _ (s : Plain) (r : is_stopped s ≡ false) where
  status_after_lem : is_bad (step s).machine.status ≡ is_bad (accessed s).status
  unfolding step performed stopped_by is_bad
  status_after_lem = go (is_bad (accessed s).status) refl
    where
      go : (b : Bool) → is_bad (accessed s).status ≡ b → is_bad (step s).machine.status ≡ is_bad (accessed s).status
      go true e = rw (r, e) e
      go false e = rw (r, e)

  last_after_lem : (step s).machine.last ≡ s.machine.address
  unfolding step performed stopped_by
  last_after_lem = go (is_bad (accessed s).status) refl
    where
      go : (b : Bool) → is_bad (accessed s).status ≡ b → (step s).machine.last ≡ s.machine.address
      go true e = rw (r, e)
      go false e = rw (r, e)

-- ONE CLOCK that retires w, where the next instruction of the plain history retires
module _ (g : Core) (s : Plain) (p : Piped) (c n : ℕ) (w : Accessed) (runs : is_bad p.pipeline.status ≡ false) (there : p.pipeline.w ≡ in_w w)
    (now : Agrees g s p c n) (next : Agrees g s (clock g p) (suc c) (suc n)) where
  going : is_stopped (steps s n) ≡ false
  going = next.exactly.performed n (omega arith)

  -- the instruction stops the pipeline exactly where it stops the plain engine
  same_end : is_bad w.status ≡ is_bad (accessed (steps s n)).status
  unfolding clock clock_by advanced stopped_in steps is_bad
  same_end = sym after ∙ (ap is_bad next.status ∙ status_after_lem (steps s n) going)
    where
      after : is_bad (clock g p).pipeline.status ≡ is_bad w.status
      after = go (is_bad w.status) refl
        where
          go : (b : Bool) → is_bad w.status ≡ b → is_bad (clock g p).pipeline.status ≡ is_bad w.status
          go true e = rw (runs, there, e) e
          go false e = rw (runs, there, e)

  same_address : w.instruction.address ≡ (steps s n).machine.address
  unfolding clock clock_by advanced stopped_in last_after steps
  same_address = sym after ∙ (next.last ∙ last_after_lem (steps s n) going)
    where
      after : (clock g p).pipeline.last ≡ w.instruction.address
      after = go (is_bad w.status) refl
        where
          go : (b : Bool) → is_bad w.status ≡ b → (clock g p).pipeline.last ≡ w.instruction.address
          go true e = rw (runs, there, e)
          go false e = rw (runs, there, e)

  on_time : p.pipeline.cycles + 1 ≡ due g s (suc n)
  on_time = omega (arith, now.running runs, now.exactly.awaited going, next.exactly.arrived n (omega arith))

  -- what stays kept of one that does not stop the pipeline
  same_kept : is_bad w.status ≡ false → retired_of w ≡ retired_of (accessed (steps s n))
  unfolding kept_of clock clock_by advanced kept_after is_bad
  same_kept e =
      let on : is_bad (clock g p).pipeline.status ≡ false = rw (runs, there, e) in
      let w_kept : (clock g p).pipeline.kept ≡ last_kept (retired_of w) = rw (runs, there, e) in
      let plain_kept = next.kept on in
      cc

  same_target : target_of w ≡ target_of (accessed (steps s n))
  unfolding target_of retired_of
  same_target = go (is_bad w.status) refl
    where
      go : (b : Bool) → is_bad w.status ≡ b → target_of w ≡ target_of (accessed (steps s n))
      go true e = rw (e, sym same_end ∙ e)
      go false e = rw (e, sym same_end ∙ e) (cc (ap (λ (k : Retired). k.instruction) (same_kept e), ap (λ (k : Retired). k.holds) (same_kept e)))

  same_line : line_in g p (in_w w) ≡ plain_line g s n
  unfolding line_in plain_line steps
  same_line =
      let number : p.pipeline.retired + 1 ≡ suc n = omega (arith, now.retired) in
      rw (number, same_target, same_address, on_time, next.registers)

-- ANY CLOCK: what it writes are the lines of the plain history that it adds
module _ (g : Core) (s : Plain) (p : Piped) (c n m : ℕ) (now : Agrees g s p c n) (next : Agrees g s (clock g p) (suc c) m) where
  nothing : (clock g p).pipeline.retired ≡ p.pipeline.retired → plain_text g s m ≡ plain_text g s n ++ []
  nothing e =
      let same : m ≡ n = omega (arith, now.retired, next.retired) in
      rw same (sym (append-nil (plain_text g s n)))

  one : (w : Accessed) → is_bad p.pipeline.status ≡ false → p.pipeline.w ≡ in_w w → (clock g p).pipeline.retired ≡ p.pipeline.retired + 1
      → plain_text g s m ≡ plain_text g s n ++ line_in g p (in_w w)
  unfolding plain_text
  one w runs there e =
      let same : m ≡ suc n = omega (arith, now.retired, next.retired) in
      let next' = subst (λ (k : ℕ). Agrees g s (clock g p) (suc c) k) same next in
      rw (same, same_line g s p c n w runs there now next')

  written : plain_text g s m ≡ plain_text g s n ++ line_now g p
  unfolding line_now line_in clock clock_by advanced stopped_in retired_after
  written = go (is_bad p.pipeline.status) refl p.pipeline.w refl
    where
      by : (w : Accessed) (b : Bool) → is_bad w.status ≡ b → is_bad p.pipeline.status ≡ false → p.pipeline.w ≡ in_w w
          → (clock g p).pipeline.retired ≡ p.pipeline.retired + 1
      by w true e r f = rw (r, f, e)
      by w false e r f = rw (r, f, e)

      go : (b : Bool) → is_bad p.pipeline.status ≡ b → (w : StageW) → p.pipeline.w ≡ w → plain_text g s m ≡ plain_text g s n ++ cond b [] (line_in g p w)
      go true e w f = nothing (rw e)
      go false e bubble_w f = nothing (rw (e, f))
      go false e (in_w w) f = one w e f (by w (is_bad w.status) refl e f)

module _ (g : Core) (t : Start) (l : length t.registers ≡ 15) (k : ℕ) (u : Premise (plain_from t) (suc k)) where
  -- THE SAME LINES: with the premise up to instruction k + 1, after any clock up to its due cycle, the trace is that of the plain history, a line
  -- for each instruction retired
  pub same_lines : (c : ℕ) → c ≤ due g (plain_from t) (suc k)
      → pipe_text g (piped_from t) c ≡ plain_text g (plain_from t) (clocks g (piped_from t) c).pipeline.retired
  unfolding pipe_text plain_text clocks piped_from pipe_start
  same_lines zero h = refl
  same_lines (suc c) h =
      let a = demand3 g t l k u c (omega arith) in
      let b = demand3 g t l k u (suc c) h in
      let e = written g (plain_from t) (clocks g (piped_from t) c) c a.0 b.0 a.1 b.1 in
      let as_many = same_lines c (omega arith) ∙ ap (plain_text g (plain_from t)) a.1.retired in
      ap (λ (x : List ℕ). x ++ line_now g (clocks g (piped_from t) c)) as_many ∙ (sym e ∙ ap (plain_text g (plain_from t)) (sym b.1.retired))

  -- so an instruction that is performed has its line after its due cycle, and the trace begins with the lines up to it, whatever comes later
  pub begins_with : is_stopped (steps (plain_from t) k) ≡ false → (c : ℕ) → due g (plain_from t) (suc k) ≤ c
      → (rest : List ℕ) × (pipe_text g (piped_from t) c ≡ plain_text g (plain_from t) (suc k) ++ rest)
  unfolding pipe_text
  begins_with r c h = further (c - due g (plain_from t) (suc k)) c (omega arith)
    where
      d : ℕ
      d = due g (plain_from t) (suc k)

      further : (e c : ℕ) → c ≡ d + e → (rest : List ℕ) × (pipe_text g (piped_from t) c ≡ plain_text g (plain_from t) (suc k) ++ rest)
      further zero c q =
          let z : c ≡ d = omega arith in
          ([], rw z (same_lines d (omega arith) ∙ (ap (plain_text g (plain_from t)) (retires_on_time g t l k (premise_seen g (plain_from t) (suc k) u) r).retired ∙ sym (append-nil (plain_text g (plain_from t) (suc k))))))
      further (suc e) c q =
          let z : c ≡ suc (d + e) = omega arith in
          let i = further e (d + e) refl in
          let line = line_now g (clocks g (piped_from t) (d + e)) in
          (i.0 ++ line, rw z (ap (λ (x : List ℕ). x ++ line) i.1 ∙ append_assoc (plain_text g (plain_from t) (suc k)) i.0 line))

-- WITH A WINDOW SET there is no premise: after every clock
pub same_lines_windowed : (g : Core) (t : Start) → length t.registers ≡ 15 → is_set t.settings.window ≡ true → (c : ℕ)
    → pipe_text g (piped_from t) c ≡ plain_text g (plain_from t) (clocks g (piped_from t) c).pipeline.retired
unfolding plain_from plain_start due
same_lines_windowed g t l w c = same_lines g t l c (λ o. absurd (true≢false (sym w ∙ o))) c (omega arith)

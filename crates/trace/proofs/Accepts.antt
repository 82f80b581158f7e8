-- Every trace of at most 65,536 lines that an honest pipelined run writes within the premise is accepted.
use Rattle.std.specs.Prelude.{ℕ, suc, ◌≤◌, ◌<◌, true, ◌≡◌, length}
use Rattle.std.proofs.Common.{true≢false, sym, ◌∙◌, subst, arith}
use Rattle.std.proofs.Math.Decide.{dec_lt}
use Rattle.machine.specs.Types.{is_set}
use Rattle.machine.specs.Plain.{plain_start}
use Rattle.clocked.specs.Prediction.{Core}
use Rattle.clocked.specs.Charges.{due}
use Rattle.clocked.specs.Pipeline.{clocks}
use Rattle.clocked.specs.Premise.{Premise}
use Rattle.account.specs.Statement.{Start, plain_from, piped_from, Agrees}
use Rattle.account.proofs.Theorem.{demand3}
use Rattle.account.proofs.Timing.{due_grows}
use Rattle.trace.specs.Text.{pipe_text}
use Rattle.trace.specs.Honest.{same_lines}
use Rattle.trace.specs.Verdict.{accepted, trace_limit, verdict}
use Rattle.trace.specs.Exact.{Within, all_right}
use Rattle.trace.proofs.Exact.{only}

module _ (g : Core) (t : Start) (l : length t.registers ≡ 15) where
  -- with the premise up to instruction k + 1, after any clock up to its due cycle
  pub honest_accepted : (k : ℕ) → Premise (plain_from t) (suc k) → (c : ℕ) → c ≤ due g (plain_from t) (suc k)
      → (clocks g (piped_from t) c).pipeline.retired ≤ trace_limit
      → verdict g (plain_from t) (pipe_text g (piped_from t) c) ≡ accepted (clocks g (piped_from t) c).pipeline.retired
  honest_accepted k u c h few = only g (plain_from t) (pipe_text g (piped_from t) c) (accepted n) (all_right n (record { within = within; text = same_lines g t l k u c h }))
    where
      n : ℕ
      n = (clocks g (piped_from t) c).pipeline.retired

      agrees : Agrees g (plain_from t) (clocks g (piped_from t) c) c n
      agrees =
          let a = demand3 g t l k u c h in
          subst (λ (m : ℕ). Agrees g (plain_from t) (clocks g (piped_from t) c) c m) (sym a.1.retired) a.1

      reached : n ≤ suc k
      reached = go (dec_lt (suc k) n)
        where
          go : Dec (suc k < n) → n ≤ suc k
          go (yes q) = absurd (omega (arith, agrees.exactly.arrived (suc k) q, due_grows g (plain_from t) (suc k)))
          go (no q) = omega arith

      within : Within (plain_from t) n
      within = record { few = few; performed = agrees.exactly.performed; premise = λ o j i a b e. u o j i a b (omega (arith, reached)) }

  -- with a window set, after any clock
  pub windowed_accepted : is_set t.settings.window ≡ true → (c : ℕ) → (clocks g (piped_from t) c).pipeline.retired ≤ trace_limit
      → verdict g (plain_from t) (pipe_text g (piped_from t) c) ≡ accepted (clocks g (piped_from t) c).pipeline.retired
  unfolding plain_from plain_start due
  windowed_accepted w c few = honest_accepted c (λ o. absurd (true≢false (sym w ∙ o))) c (omega arith) few

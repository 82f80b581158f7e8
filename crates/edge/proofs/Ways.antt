-- One law for each way out of a function, over variables for what its callees gave. Assumes nothing.
use mathlib.Core.Path.{◌≡◌, refl, ap, sym, ◌∙◌}
use mathlib.Core.Bool.{Bool, false}
use mathlib.Core.List.{List, []}
use Prim.Native.Nat.{ℕ}
use borrow.Author.Tests.{ne_eqb}
use lib.ListN.{length}
use Rattle.std.specs.Prelude.{Result}
use Rattle.answers.specs.declared.Refused.{Refused}
use Rattle.answers.specs.Numbers.{number_in, record_in}
use Rattle.machine.specs.declared.Codes.{Codes}
use Rattle.clocked.specs.declared.Settings.{Settings}
use Rattle.clocked.specs.declared.Pipeline.{Pipeline}
use Rattle.machine.specs.Memory.{lent}
use Rattle.clocked.specs.Prediction.{as_in_01}
use Rattle.clocked.specs.Pipeline.{pipe_start}
use Rattle.clocked.specs.PipeRuns.{pipe_started, PipeAnswer, pipe_answer, pipe_run_unlogged}
use Rattle.block.specs.Block.{words_in, with_words, codes_from}
use Rattle.replay_ends.specs.declared.settings.Numbers.{Numbers}
use Rattle.replay_ends.specs.Ends.{numbers_refused, settings_of, replay_refusal, result_words, full_words}
use Rattle.edge.specs.Edge.{Edge, edge, edge_done, edge_run, replayed_by, replayed, replayed_set}

-- THE RUN
module _ (s : Settings) (memory registers : List ℕ) (start codes budget : ℕ) where
  pub runs : (words : List ℕ) (c : Codes) (started ran : Result Pipeline (Refused Pipeline)) (fresh end : Pipeline) (memory' : List ℕ)
      → words ≡ words_in 15 registers 0 → c ≡ codes_from codes
      → ◌≡◌ {A = ℕ × Pipeline} (number_in started, record_in started) (pipe_started s (length memory) words c start) → fresh ≡ record_in started
      → pipe_answer (number_in ran) (record_in ran) (lent memory') [] [] ≡ pipe_run_unlogged fresh (lent memory) budget → end ≡ record_in ran
      → (end ≡ (edge_run s memory registers start codes budget).pipeline) × (memory' ≡ (edge_run s memory registers start codes budget).memory.bytes)
  unfolding edge_run pipe_started
  runs words c started ran fresh end memory' e f g h r q =
      let begun : fresh ≡ pipe_start s words c start = h ∙ ap (λ (x : ℕ × Pipeline). x.1) g in
      let run : pipe_answer (number_in ran) (record_in ran) (lent memory') [] [] ≡ edge_run s memory registers start codes budget = cc in
      (q ∙ ap (λ (o : PipeAnswer). o.pipeline) run, ap (λ (o : PipeAnswer). o.memory.bytes) run)

-- THE REPLAY: refused, or run and written back
module _ (block : ℕ) (words : Pipeline → List ℕ) (chosen : Bool) (s : Settings) (memory registers result : List ℕ) (start codes budget n : ℕ)
    (h : n ≡ replay_refusal block chosen (length memory) (length registers) (length result) start codes budget) where
  pub refuses : (n ≡ 0 → ⊥) → edge n memory registers result ≡ replayed_by block words chosen s memory registers result start codes budget
  unfolding replayed_by
  refuses z = cc (ne_eqb n 0 z)

  pub replays : (end : Pipeline) (memory' registers' result' : List ℕ) → n ≡ 0
      → (end ≡ (edge_run s memory registers start codes budget).pipeline) × (memory' ≡ (edge_run s memory registers start codes budget).memory.bytes)
      × (registers' ≡ with_words end.registers registers 0) → result' ≡ with_words (words end) result 0
      → edge 0 memory' registers' result' ≡ replayed_by block words chosen s memory registers result start codes budget
  unfolding replayed_by edge_done
  replays end memory' registers' result' z (e, m, r) q = rw (sym h ∙ z) (cc)

-- document 01's replay is that of its own settings, and with settings by their numbers it is that of the settings that they choose
module _ (memory registers result : List ℕ) (start codes budget : ℕ) where
  pub as_in_01_lem : (x : Edge) (s : Settings) → s ≡ as_in_01 → x ≡ replayed_by 40 result_words false s memory registers result start codes budget
      → x ≡ replayed memory registers result start codes budget
  unfolding replayed
  as_in_01_lem x s e h = cc

  module _ (m : Numbers) (chosen : Bool) (c : chosen ≡ numbers_refused m (length memory)) where
    pub as_chosen : (x : Edge) (s : Settings) → s ≡ settings_of m → x ≡ replayed_by 88 full_words chosen s memory registers result start codes budget
        → x ≡ replayed_set m memory registers result start codes budget
    unfolding replayed_set
    as_chosen x s e h = cc

    pub refused_as_chosen : (n : ℕ) → n ≡ replay_refusal 88 chosen (length memory) (length registers) (length result) start codes budget → (n ≡ 0 → ⊥)
        → edge n memory registers result ≡ replayed_set m memory registers result start codes budget
    refused_as_chosen n h z = as_chosen _ _ refl (refuses 88 full_words chosen (settings_of m) memory registers result start codes budget n h z)

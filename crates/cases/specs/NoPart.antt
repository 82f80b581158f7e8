-- Bytes that play no part (02, #112), at the host edge: the same answer, registers and result block, whatever the cycle budget; and in the program's report.
use Prim.Native.Nat.{ℕ}
use Rattle.std.specs.Prelude.{Bool, true, false, cond, ◌≡◌, refl, eqb, length, replicate}
use mathlib.Core.List.{List, []}
use Rattle.std.proofs.Math.Path.{ap}
use Rattle.std.proofs.Common.{sym}
use Rattle.clocked.specs.declared.Settings.{Settings}
use Rattle.clocked.specs.declared.Pipeline.{Pipeline}
use Rattle.machine.specs.Memory.{lent}
use Rattle.machine.specs.Plain.{is_stopped, steps}
use Rattle.clocked.specs.Prediction.{as_in_01}
use Rattle.clocked.specs.Premise.{Premise}
use Rattle.clocked.specs.PipeRuns.{PipeAnswer, pipe_answer, pipe_run_unlogged}
use Rattle.account.specs.Statement.{Start, plain_from, piped_from}
use Rattle.block.specs.Block.{words_in, with_words, codes_from}
use Rattle.replay_ends.specs.declared.settings.Numbers.{Numbers}
use Rattle.replay_ends.specs.Ends.{replay_refusal, result_words, numbers_refused, settings_of, full_words}
use Rattle.edge.specs.Edge.{Edge, edge, edge_done, edge_run, replayed_by, replayed, replayed_set}
use Rattle.report_lines.specs.Lines.{count_lines}
use Rattle.report.specs.Report.{end_lines, report, image_refused, image_start, image_run, reported}
use Rattle.junk.specs.Statement.{DifferOnlyAt, AtMost, NoPart, SameRecord}
use Rattle.junk.proofs.Theorem.{no_part_lem}
use Rattle.junk.specs.Answers.{SamePipeAnswer}
use Rattle.junk.proofs.Answers.{runs_same}

-- two answers of the host edge: answer, registers and result block are the same, and memory differs at most where the images do
pub record SameEdge (m m' : List ℕ) (x x' : Edge) : Type 0 where
  pub answer : x.answer ≡ x'.answer
  pub registers : x.registers ≡ x'.registers
  pub result : x.result ≡ x'.result
  pub memory : AtMost (lent m) (lent m') (lent x.memory) (lent x'.memory)

-- the result words say nothing of the stages and the predicted address
abbrev Tells : (Pipeline → List ℕ) → Type 0
Tells words = (k k' : Pipeline) → SameRecord k k' → words k ≡ words k'

five : Tells result_words
unfolding result_words
five k k' h = cc (h.status, h.last, h.codes, h.retired, h.cycles)

eleven : Tells full_words
unfolding full_words
eleven k k' h = cc (five k k' h, h.kinds, h.blame)

-- the start that the lent bytes, the numbers and the settings say
abbrev pub edge_start : Settings → (memory registers : List ℕ) → (start codes : ℕ) → Start
edge_start s memory registers start codes =
    record { settings = s; registers = words_in 15 registers 0; codes = codes_from codes; address = start; memory = lent memory }

-- THE HOST EDGE, with a result block of so many bytes for these words
module _ (block : ℕ) (words : Pipeline → List ℕ) (tells : Tells words) (s : Settings) (m m' registers result : List ℕ) (start codes : ℕ) where
  abbrev given : Start
  given = edge_start s m registers start codes

  done_same : (o o' : PipeAnswer) → SamePipeAnswer (lent m) (lent m') o o' → SameEdge m m' (edge_done words o registers result) (edge_done words o' registers result)
  unfolding edge_done
  done_same o o' h =
      record {
        answer = refl;
        registers = ap (λ (r : List ℕ). with_words r registers 0) h.pipeline.registers;
        result = ap (λ (w : List ℕ). with_words w result 0) (tells o.pipeline o'.pipeline h.pipeline);
        memory = record { rest = refl; sizes = h.memory.sizes; only = h.memory.only };
      }

  -- the plain engine on the first image stops within n instructions, within the premise, and the images differ only at bytes that play no part in it
  by_words : (chosen : Bool) → DifferOnlyAt (NoPart (plain_from given)) (lent m) (lent m')
      → (n : ℕ) → is_stopped (steps (plain_from given) n) ≡ true → Premise (plain_from given) n → (budget : ℕ)
      → SameEdge m m' (replayed_by block words chosen s m registers result start codes budget) (replayed_by block words chosen s m' registers result start codes budget)
  unfolding replayed_by edge_run words_in piped_from
  by_words chosen d n h u budget = rw (sym d.sizes) (go (eqb refusal 0))
    where
      refusal : ℕ
      refusal = replay_refusal block chosen (length m) (length registers) (length result) start codes budget

      go : (b : Bool) → SameEdge m m' (cond b (edge_done words (edge_run s m registers start codes budget) registers result) (edge refusal m registers result))
          (cond b (edge_done words (edge_run s m' registers start codes budget) registers result) (edge refusal m' registers result))
      go true = done_same _ _ ((runs_same NoPart no_part_lem given (lent m') refl d n h u).2 budget)
      go false = record { answer = refl; registers = refl; result = refl; memory = record { rest = refl; sizes = d.sizes; only = λ x e. e } }

-- document 01's replay, and the one with settings
pub edge_no_part : (m m' registers result : List ℕ) (start codes : ℕ)
    → let s = plain_from (edge_start as_in_01 m registers start codes) in
    DifferOnlyAt (NoPart s) (lent m) (lent m') → (n : ℕ) → is_stopped (steps s n) ≡ true → Premise s n
    → (budget : ℕ) → SameEdge m m' (replayed m registers result start codes budget) (replayed m' registers result start codes budget)
unfolding replayed
edge_no_part m m' registers result start codes d n h u budget = by_words 40 result_words five as_in_01 m m' registers result start codes false d n h u budget

pub edge_set_no_part : (g : Numbers) (m m' registers result : List ℕ) (start codes : ℕ)
    → let s = plain_from (edge_start (settings_of g) m registers start codes) in
    DifferOnlyAt (NoPart s) (lent m) (lent m') → (n : ℕ) → is_stopped (steps s n) ≡ true → Premise s n
    → (budget : ℕ) → SameEdge m m' (replayed_set g m registers result start codes budget) (replayed_set g m' registers result start codes budget)
unfolding replayed_set
edge_set_no_part g m m' registers result start codes d n h u budget =
    rw (sym d.sizes) (by_words 88 full_words eleven (settings_of g) m m' registers result start codes (numbers_refused g (length m)) d n h u budget)

-- THE PROGRAM: what it writes is the same
abbrev pub image_from : List ℕ → Start
image_from image =
    record { settings = as_in_01; registers = replicate 15 0; codes = record { zf = true; sf = false; of = false }; address = 0; memory = lent image }

lines_same : (x y : ℕ) (k k' : Pipeline) → x ≡ y → SameRecord k k' → report x k ≡ report y k'
unfolding report end_lines count_lines
lines_same x y k k' e h = cc (h.status, h.last, h.codes, h.retired, h.cycles, h.kinds, h.registers)

pub report_no_part : (m m' : List ℕ) → DifferOnlyAt (NoPart (plain_from (image_from m))) (lent m) (lent m')
    → (n : ℕ) → is_stopped (steps (plain_from (image_from m)) n) ≡ true → Premise (plain_from (image_from m)) n → reported m ≡ reported m'
unfolding reported image_run image_start piped_from
report_no_part m m' d n h u = rw (sym d.sizes) (go (image_refused (length m)))
  where
    answer : Bool → List ℕ → PipeAnswer
    answer b image = cond b (pipe_answer 1 image_start (lent image) [] []) (pipe_run_unlogged image_start (lent image) 4000)

    go : (b : Bool) → report (answer b m).number (answer b m).pipeline ≡ report (answer b m').number (answer b m').pipeline
    go true = refl
    go false =
        let x = (runs_same NoPart no_part_lem (image_from m) (lent m') refl d n h u).2 4000 in
        lines_same _ _ _ _ x.number x.pipeline

-- The host edge: "It lends memory, registers, result; it gives start address, codes as 4ZF + 2SF + OF, and cycle budget."
use Rattle.std.specs.Prelude.{ℕ, Bool, false, cond, List, eqb, length}
use Rattle.clocked.specs.declared.Settings.{Settings}
use Rattle.clocked.specs.declared.Pipeline.{Pipeline}
use Rattle.machine.specs.Memory.{lent}
use Rattle.clocked.specs.Prediction.{as_in_01}
use Rattle.clocked.specs.Pipeline.{pipe_start}
use Rattle.clocked.specs.PipeRuns.{PipeAnswer, pipe_run_unlogged}
use Rattle.block.specs.Block.{words_in, with_words, codes_from}
use Rattle.replay_ends.specs.declared.settings.Numbers.{Numbers}
use Rattle.replay_ends.specs.Ends.{replay_refusal, result_words, numbers_refused, settings_of, full_words}

-- the answer, and what the three lent slices hold
pub record Edge : Type 0 where
  pub answer : ℕ
  pub memory : List ℕ
  pub registers : List ℕ
  pub result : List ℕ

abbrev pub edge : ℕ → List ℕ → List ℕ → List ℕ → Edge
edge n m r b = record { answer = n; memory = m; registers = r; result = b }

-- "leaves the final registers and memory in the lent bytes", and these words of the final record in the result block
unfoldable pub edge_done : (Pipeline → List ℕ) → PipeAnswer → List ℕ → List ℕ → Edge
edge_done words o registers result = edge 0 o.memory.bytes (with_words o.pipeline.registers registers 0) (with_words (words o.pipeline) result 0)

-- "It makes one pipelined run without logs from a fresh start", with these settings
unfoldable pub edge_run : Settings → List ℕ → List ℕ → (start codes budget : ℕ) → PipeAnswer
edge_run s memory registers start codes budget = pipe_run_unlogged (pipe_start s (words_in 15 registers 0) (codes_from codes) start) (lent memory) budget

-- a replay with a result block of so many bytes for these words, which refuses settings that are out of their range
unfoldable pub replayed_by : (block : ℕ) (words : Pipeline → List ℕ) (chosen : Bool) → Settings → List ℕ → List ℕ → List ℕ → (start codes budget : ℕ) → Edge
replayed_by block words chosen s memory registers result start codes budget =
    let n = replay_refusal block chosen (length memory) (length registers) (length result) start codes budget in
    cond (eqb n 0) (edge_done words (edge_run s memory registers start codes budget) registers result) (edge n memory registers result)

-- document 01's: five words, its own settings
unfoldable pub replayed : List ℕ → List ℕ → List ℕ → (start codes budget : ℕ) → Edge
replayed = replayed_by 40 result_words false as_in_01

-- with settings by their numbers, and all eleven words
unfoldable pub replayed_set : Numbers → List ℕ → List ℕ → List ℕ → (start codes budget : ℕ) → Edge
replayed_set s memory = replayed_by 88 full_words (numbers_refused s (length memory)) (settings_of s) memory

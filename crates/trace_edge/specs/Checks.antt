-- A trace checked at the host edge (02, #108).
use Rattle.std.specs.Prelude.{ℕ, Bool, cond, not, ◌||◌, List, [], ◌∷◌, eqb, ltb, length}
use Rattle.machine.specs.Memory.{lent}
use Rattle.machine.specs.Plain.{Plain, plain_of, plain_start, steps}
use Rattle.machine.specs.Runs.{size_refused, start_refused, lowest}
use Rattle.clocked.specs.Prediction.{core_of}
use Rattle.block.specs.Block.{words_in, with_words, codes_from}
use Rattle.trace.specs.declared.Verdict.{Verdict}
use Rattle.trace.specs.Verdict.{kind_number, verdict}
use Rattle.replay_ends.specs.declared.settings.Numbers.{Numbers}
use Rattle.replay_ends.specs.Ends.{window_of, settings_of, numbers_refused}

-- the answer, and what the two slices hold that may change: "The image is only read"
pub record Check : Type 0 where
  pub answer : ℕ
  pub copy : List ℕ
  pub verdict : List ℕ

abbrev pub check : ℕ → List ℕ → List ℕ → Check
check n c v = record { answer = n; copy = c; verdict = v }

-- 1 and 6 are about the image, 2 about the registers; "a second lent buffer of N bytes (else refusal 4)", and so for a verdict that is not 16 bytes; 5: codes
-- over 7, or settings out of their range
unfoldable pub check_refusal : (image registers copy verdict start codes : ℕ) → (settings : Bool) → ℕ
check_refusal image registers copy verdict start codes settings =
    lowest
    ((1, size_refused image) ∷ (2, not (eqb registers 120)) ∷ (4, not (eqb copy image) || not (eqb verdict 16)) ∷ (5, ltb 7 codes || settings)
    ∷ (6, start_refused image start) ∷ [])

-- "given the starting image and record"
unfoldable pub start_of : (image registers : List ℕ) → (start codes : ℕ) → Numbers → Plain
start_of image registers start codes chosen =
    plain_of (plain_start (window_of chosen) (words_in 15 registers 0) (codes_from codes) start) (lent image)

-- the verdict's two words, and the buffer, which "ends as the plain engine's memory after the lines found right"
unfoldable pub check_done : Plain → Verdict → (verdict : List ℕ) → Check
check_done s v b = check 0 (steps s v.right).memory.bytes (with_words (v.line ∷ kind_number v.kind ∷ []) b 0)

unfoldable pub checked : (image registers trace copy verdict : List ℕ) → (start codes : ℕ) → Numbers → Check
checked image registers trace copy block start codes chosen =
    let n = check_refusal (length image) (length registers) (length copy) (length block) start codes (numbers_refused chosen (length image)) in
    let s = start_of image registers start codes chosen in
    let v = verdict (core_of (settings_of chosen)) s trace in
    cond (eqb n 0) (check_done s v block) (check n copy block)

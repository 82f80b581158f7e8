-- What a checker of a trace answers (02, #108).
use Rattle.std.specs.Prelude.{ℕ, zero, suc, Bool, true, false, cond, not, ◌&&◌, ◌||◌, List, [], ◌∷◌, eqb, length, drop, Option, None, Some}
use Rattle.machine.specs.Types.{is_set}
use Rattle.machine.specs.Plain.{Plain, is_stopped, steps}
use Rattle.clocked.specs.Prediction.{Core}
use Rattle.account.specs.Decide.{clear}
use Rattle.trace.specs.Text.{plain_line}
pub use Rattle.trace.specs.declared.Verdict.{Verdict}
use Rattle.trace.specs.declared.Kind.{Kind}
use Rattle.trace.specs.declared.Kind.TheVariants.{NotDue as not_due, Overwritten as overwritten}

-- the kinds' numbers, 0 where no line is wrong
unfoldable pub kind_number : Option Kind → ℕ
kind_number None = 0
kind_number (Some not_due) = 1
kind_number (Some overwritten) = 2

-- "accepts"
abbrev pub accepted : ℕ → Verdict
accepted n = record { line = 0; kind = None; right = n }

-- "and else answers (no refusal) the number of the first wrong line": line n + 1 is wrong
abbrev pub wrong_by : (kind : Kind) (n : ℕ) → Verdict
wrong_by kind n = record { line = suc n; kind = Some kind; right = n }

-- "The line of an instruction that one of the three before it wrote into is wrong by a kind of its own"; "With a window set .. #108" holds "with no premise on
-- stores" (02, #113)
unfoldable pub written_into : Plain → ℕ → Bool
written_into s n = not (is_set s.memory.window || clear 3 s n)

-- the text begins with the line
unfoldable pub begins : (line text : List ℕ) → Bool
begins [] t = true
begins (x ∷ l) [] = false
begins (x ∷ l) (y ∷ t) = eqb x y && begins l t

-- The text from line n + 1 on, of which so many lines may yet be right: "Line 65,537 is always wrong", and so is one behind the stop. Written into goes "before
-- any other fault in that line".
unfoldable pub judged : Core → Plain → (left n : ℕ) → List ℕ → Verdict
judged g s zero n text = cond (eqb (length text) 0) (accepted n) (wrong_by not_due n)
judged g s (suc left) n text =
    let line = plain_line g s n in
    let next = judged g s left (suc n) (drop (length line) text) in
    cond (eqb (length text) 0) (accepted n)
    (cond (is_stopped (steps s n)) (wrong_by not_due n)
    (cond (written_into s n) (wrong_by overwritten n)
    (cond (begins line text) next (wrong_by not_due n))))

-- "Every trace of at most 65,536 lines"
abbrev pub trace_limit : ℕ
trace_limit = 65536

-- the verdict on a trace, beside the plain history from s
unfoldable pub verdict : Core → Plain → List ℕ → Verdict
verdict g s trace = judged g s trace_limit 0 trace

-- Both ends of a replay at the host edge: the settings, the refusals, and the result words.
use Rattle.std.specs.Prelude.{ℕ, Bool, false, cond, not, ◌||◌, List, [], ◌∷◌, ◌++◌, eqb, ltb}
use Rattle.machine.specs.Types.{Window}
use Rattle.machine.specs.Types.{no_window, within}
use Rattle.clocked.specs.declared.Settings.{Settings}
use Rattle.clocked.specs.declared.Pipeline.{Pipeline}
use Rattle.machine.specs.Types.{status_number, fault_number, codes_number}
use Rattle.replay_ends.specs.declared.settings.Numbers.{Numbers}
use Rattle.machine.specs.Runs.{size_refused, budget_refused, window_refused, start_refused, lowest}
use Rattle.clocked.specs.PipeRuns.{settings_refused, pipe_limit}

-- THE SETTINGS by five numbers: the rule (02, #105); 1 for late store data (#106); 1 for a code window, its first address and its end (#113),
-- which are looked at only then
abbrev pub numbers : (rule late windowed first end : ℕ) → Numbers
numbers r l w f e = record { rule = r; late = l; windowed = w; first = f; end = e }

unfoldable pub window_of : Numbers → Window
window_of n = cond (eqb n.windowed 1) (within (n.first, n.end)) no_window

unfoldable pub settings_of : Numbers → Settings
settings_of n = record { rule = n.rule; late = eqb n.late 1; window = window_of n }

-- out of their range, in memory of that size
unfoldable pub numbers_refused : Numbers → (size : ℕ) → Bool
numbers_refused n size = ltb 1 n.late || (ltb 1 n.windowed || (settings_refused (settings_of n) || window_refused (window_of n) size))

-- THE REFUSALS of a replay with a result block of so many bytes, where chosen says that its settings are out of their range.
-- 2: "registers not 120 bytes"; 4: "result block not 40 bytes"; 5: "codes over 7"; 6 of #109, "checked last, at fresh starts and the host
-- edge". At a fresh start no cycle is counted yet
unfoldable pub replay_refusal : (block : ℕ) (chosen : Bool) (memory registers result start codes budget : ℕ) → ℕ
replay_refusal block chosen memory registers result start codes budget =
    lowest
    ((1, size_refused memory) ∷ (2, not (eqb registers 120)) ∷ (3, budget_refused pipe_limit 0 budget) ∷ (4, not (eqb result block)) ∷ (5, ltb 7 codes || chosen)
    ∷ (6, start_refused memory start) ∷ [])

-- document 01's replay has no settings to refuse
abbrev pub edge_refusal : (memory registers result start codes budget : ℕ) → ℕ
edge_refusal = replay_refusal 40 false

-- THE RESULT WORDS: "status (AOK if the budget was spent), last address, codes, retired, cycles."
unfoldable pub result_words : Pipeline → List ℕ
result_words k = status_number k.status ∷ k.last ∷ codes_number k.codes ∷ k.retired ∷ k.cycles ∷ []

-- and with them the cycles by kind, and what a bad fetch is blamed on (02, #107)
unfoldable pub full_words : Pipeline → List ℕ
full_words k =
    result_words k
    ++ k.kinds.loaduse ∷ k.kinds.mispredict ∷ k.kinds.returned ∷ k.kinds.patched ∷ fault_number k.blame.fault ∷ k.blame.address ∷ []

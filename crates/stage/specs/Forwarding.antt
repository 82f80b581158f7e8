-- Sources and targets, taken out of the stages once, and decode by them.
use Rattle.std.specs.Prelude.{ℕ, Bool, cond, eqb, ltb}
use Rattle.stage.specs.Types.{Option, Instruction, StageD, bubble_d, in_d, StageE, bubble_e, in_e, StageM, bubble_m, in_m, StageW}
use Rattle.clocked.specs.Prediction.{Core, takes_late}
use Rattle.machine.specs.Memory.{Registers, value, written}
use Rattle.machine.specs.Stages.{source_a, source_b, result_target, loaded_target}
use Rattle.stage.specs.declared.forwarding.Targets.{Targets}
use Rattle.stage.specs.declared.forwarding.Sources.{Sources}

abbrev pub no_targets : Targets
no_targets = record { result = 15; loaded = 15 }

-- where the result and the loaded word go
unfoldable pub targets_of : Instruction → Bool → Targets
targets_of i h = record { result = result_target i h; loaded = loaded_target i }

-- by where what stands in a stage has its instruction, and whether its condition holds
unfoldable pub targets_in : {A : Type 0} → (A → Instruction) → (A → Bool) → Option A → Targets
targets_in f h bubble_m = no_targets
targets_in f h (in_m x) = targets_of (f x) (h x)

-- the targets of M's instruction, or of E's after execution
unfoldable pub targets_m : StageM → Targets
unfolding targets_in
targets_m m = targets_in (λ x. x.instruction) (λ x. x.holds) m

-- the targets of W's instruction, or of M's after its access
unfoldable pub targets_w : StageW → Targets
unfolding targets_in
targets_w w = targets_in (λ x. x.instruction) (λ x. x.holds) w

-- what decode reads: a bubble's sources are 15, which match nothing
unfoldable pub sources_d : StageD → Sources
sources_d bubble_d = record { a = 15; b = 15 }
sources_d (in_d i) = record { a = source_a i; b = source_b i }

-- a bubble's values are 0, and go nowhere
unfoldable pub value_in : {A : Type 0} → (A → ℕ) → Option A → ℕ
value_in f bubble_m = 0
value_in f (in_m x) = f x

unfoldable pub result_m : StageM → ℕ
unfolding value_in
result_m m = value_in (λ x. x.result) m

unfoldable pub result_w : StageW → ℕ
unfolding value_in
result_w w = value_in (λ x. x.result) w

unfoldable pub word_w : StageW → ℕ
unfolding value_in
word_w w = value_in (λ x. x.word) w

-- W's write to the targets t: the result, and then the loaded word
unfoldable pub written_by : Targets → StageW → Registers → Registers
written_by t w r = written (written r t.result (result_w w)) t.loaded (word_w w)

-- "the first match of: result in E, word loaded in M, result in M": t and u are the targets of what stood in E and M
unfoldable pub source_by : Targets → StageM → Targets → StageW → Registers → ℕ → ℕ
source_by t x u y r q =
    cond (ltb q 15) (cond (eqb t.result q) (result_m x) (cond (eqb u.loaded q) (word_w y) (cond (eqb u.result q) (result_w y) (value r q)))) 0

-- decode by the sources s, on the register file that W has written
unfoldable pub decoded_by : Sources → Targets → StageM → Targets → StageW → Registers → StageD → StageE
decoded_by s t x u y r bubble_d = bubble_e
decoded_by s t x u y r (in_d i) = in_e (record { instruction = i; a = source_by t x u y r s.a; b = source_by t x u y r s.b })

-- of D's sources a is the one that may come late, and is then not waited for
unfoldable pub awaited_by : Core → StageD → ℕ → ℕ
awaited_by g bubble_d a = a
awaited_by g (in_d i) a = cond (takes_late g i) 15 a

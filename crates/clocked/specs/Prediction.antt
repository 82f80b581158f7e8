-- In what cores differ, the settings that choose it, and the two rules that depend on it: prediction and the load-use wait.
use Rattle.std.specs.Prelude.{ℕ, Bool, true, false, cond, not, ◌&&◌, ◌||◌, ltb, eqb}
use Rattle.std.specs.Bool.{beq}
use Rattle.clocked.specs.Record.{Instruction, Settings, no_window}
use Rattle.machine.specs.Table.{is, jump}
use Rattle.machine.specs.Stages.{source_a, source_b, loaded_target, turned, straight}

-- what one core may do otherwise than another: is a conditional jump, as fetched, guessed to go to C; may a store's data come late
pub record Core : Type 0 where
  pub guesses : Instruction → Bool
  pub late : Bool

-- "taken; conditional jumps never taken; or taken exactly when C is below the next address, without sign" (02, #105): rules 0, 1 and 2
unfoldable pub rule : ℕ → Instruction → Bool
rule n i = cond (eqb n 1) false (cond (eqb n 2) (ltb i.constant i.next) true)

-- the core that a record's settings choose
abbrev pub core_of : Settings → Core
core_of s = record { guesses = rule s.rule; late = s.late }

-- document 01's own settings
abbrev pub as_in_01 : Settings
as_in_01 = record { rule = 0; late = false; window = no_window }

abbrev pub core01 : Core
core01 = core_of as_in_01

-- is this jump guessed to go to C; the unconditional one is, whatever the core
unfoldable pub guess : Core → Instruction → Bool
guess g i = eqb i.function 0 || g.guesses i

-- "Prediction: call and jXX go to C, others to the next address."
unfoldable pub predicted_next : Core → Instruction → ℕ
predicted_next g i = cond (is jump i) (turned i (guess g i)) (straight i)

-- a jump whose condition came out otherwise than guessed: under document 01's rule, "condition false"
unfoldable pub mispredicted : Core → Instruction → Bool → Bool
mispredicted g i holds = is jump i && not (beq holds (guess g i))

-- a target meets a source: "Register 15 as a source reads 0 and matches nothing"
unfoldable pub meets : ℕ → ℕ → Bool
meets target source = ltb source 15 && eqb target source

-- "As an option in the start record, rmmovq or pushq waits only if the loaded register is its address source" (02, #106)
abbrev pub rmmovq : ℕ
rmmovq = 4

abbrev pub pushq : ℕ
pushq = 10

unfoldable pub takes_late : Core → Instruction → Bool
takes_late g i = g.late && (is rmmovq i || is pushq i)

-- the source that is waited for beside source_b, "rB, or rsp for pushq": 15 for none, where "it is only the stored rA"
unfoldable pub awaited_a : Core → Instruction → ℕ
awaited_a g i = cond (takes_late g i) 15 (source_a i)

-- load-use: the first instruction's "loaded register is a source" that the second waits for
unfoldable pub load_use : Core → Instruction → Instruction → Bool
load_use g i j = meets (loaded_target i) (awaited_a g j) || meets (loaded_target i) (source_b j)

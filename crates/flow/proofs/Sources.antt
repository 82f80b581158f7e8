-- What is taken out of the stages once is document 01's order of sources, its load-use and W's write. Assumes nothing.
use mathlib.Core.Path.{◌≡◌, refl}
use mathlib.Core.Bool.{Bool, true, false, cond, ◌||◌}
use Prim.Native.Nat.{ℕ}
use lib.Dec.{ltb, eqb}
use lib.ListN.{length}
use Rattle.clock_laws.specs.Registers.{meets_none, value_after_w}
use Rattle.machine.specs.declared.Codes.{Codes}
use Rattle.clocked.specs.Record.{StageD}
use Rattle.clocked.specs.Record.{bubble_d, in_d}
use Rattle.clocked.specs.Record.{StageE}
use Rattle.clocked.specs.Record.{bubble_e, in_e}
use Rattle.clocked.specs.Record.{StageM}
use Rattle.clocked.specs.Record.{bubble_m, in_m}
use Rattle.clocked.specs.Record.{StageW}
use Rattle.clocked.specs.Record.{bubble_w, in_w}
use Rattle.machine.specs.Memory.{Memory, Registers, value, written}
use Rattle.machine.specs.Stages.{decode, execute, access, new_registers, source_a, source_b}
use Rattle.clocked.specs.Prediction.{Core, meets, awaited_a, load_use}
use Rattle.clocked.specs.Pipeline.{after_e, after_m, handed, past_result, past_both, registers_after, waits_behind}
use Rattle.stage.specs.Forwarding.{targets_of, targets_m, targets_w, sources_d, result_m, result_w, word_w, written_by, source_by, decoded_by, awaited_by}
use Rattle.flow.specs.Moving.{source_in, decoded_in}

-- the access changes no target
pub targets_stay : (m : StageM) (bytes : Memory) → targets_m m ≡ targets_w (after_m m bytes)
unfolding targets_m targets_w after_m access
targets_stay bubble_m bytes = refl
targets_stay (in_m x) bytes = refl

pub written_is : (w : StageW) (r : Registers) → written_by (targets_w w) w r ≡ registers_after w r
unfolding written_by targets_w targets_of result_w word_w registers_after new_registers written
written_is bubble_w r = refl
written_is (in_w w) r = refl

-- behind E and D: a bubble has 15 for its targets and sources, which meet nothing
pub waits_is : (g : Core) (y : StageW) (e : StageE) (c : Codes) (d : StageD)
    → let l = (targets_m (after_e (handed g y e) c)).loaded in (meets l (awaited_by g d (sources_d d).a) || meets l (sources_d d).b) ≡ waits_behind g e d
unfolding targets_m targets_of after_e handed execute sources_d waits_behind awaited_by awaited_a load_use meets
waits_is g y bubble_e c d = rw (meets_none (awaited_by g d (sources_d d).a), meets_none (sources_d d).b)
waits_is g y (in_e x) c bubble_d = refl
waits_is g y (in_e x) c (in_d i) = refl

-- below 15 a match is plain equality, and at 15 there is none
module _ (q : ℕ) where
  past_e : (x : StageM) (v : ℕ) → ltb q 15 ≡ true → cond (eqb (targets_m x).result q) (result_m x) v ≡ past_result x q v
  unfolding targets_m targets_of result_m past_result meets
  past_e bubble_m v h = cc (meets_none q)
  past_e (in_m x) v h = cc

  past_m : (y : StageW) (v : ℕ) → ltb q 15 ≡ true
      → cond (eqb (targets_w y).loaded q) (word_w y) (cond (eqb (targets_w y).result q) (result_w y) v) ≡ past_both y q v
  unfolding targets_w targets_of result_w word_w past_both meets
  past_m bubble_w v h = cc (meets_none q)
  past_m (in_w y) v h = cc

  beyond_e_lem : (x : StageM) (v : ℕ) → ltb q 15 ≡ false → v ≡ past_result x q v
  unfolding past_result meets
  beyond_e_lem bubble_m v h = refl
  beyond_e_lem (in_m x) v h = cc

  beyond_w_lem : (y : StageW) (v : ℕ) → ltb q 15 ≡ false → v ≡ past_both y q v
  unfolding past_both meets
  beyond_w_lem bubble_w v h = refl
  beyond_w_lem (in_w y) v h = cc

module _ (x : StageM) (y w : StageW) (r : Registers) (l : length r ≡ 15) where
  source_is : (q : ℕ) → source_by (targets_m x) x (targets_w y) y (registers_after w r) q ≡ source_in x y w r q
  unfolding source_by source_in value
  source_is q = go (ltb q 15) refl
    where
      go : (b : Bool) → ltb q 15 ≡ b → source_by (targets_m x) x (targets_w y) y (registers_after w r) q ≡ source_in x y w r q
      go true h = cc (value_after_w w r l q, past_m q y (past_both w q (value r q)) h, past_e q x (past_both y q (past_both w q (value r q))) h)
      go false h = cc (beyond_w_lem q w (value r q) h, beyond_w_lem q y (value r q) h, beyond_e_lem q x (value r q) h)

  pub decoded_is : (d : StageD) → decoded_by (sources_d d) (targets_m x) x (targets_w y) y (registers_after w r) d ≡ decoded_in d x y w r
  unfolding decoded_by decoded_in sources_d decode
  decoded_is bubble_d = refl
  decoded_is (in_d i) = cc (source_is (source_a i), source_is (source_b i))

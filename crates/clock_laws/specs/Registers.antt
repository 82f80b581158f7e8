-- The register file after a write, and a target that meets no source.
use Rattle.std.specs.Prelude.{ℕ, Bool, true, false, cond, ◌&&◌, ◌≡◌, refl, ltb, eqb, length, set}
use Rattle.std.proofs.Common.{ap, sym, ◌∙◌, arith, ltb-true, eqb-true, length-set, get_or-set_same, get_or-set_other}
use Rattle.std.proofs.lemmas.Bool.{eqb-false}
use Rattle.machine.specs.declared.Accessed.{Accessed}
use Rattle.clocked.specs.Record.{StageW}
use Rattle.clocked.specs.Record.{bubble_w, in_w}
use Rattle.machine.specs.Memory.{Registers, value, written}
use Rattle.machine.specs.Stages.{new_registers, result_target, loaded_target}
use Rattle.clocked.specs.Prediction.{meets}
use Rattle.clocked.specs.Pipeline.{past_both, registers_after}

-- a target of 15 meets no source
pub meets_none : (q : ℕ) → meets 15 q ≡ false
unfolding meets
meets_none q = go (ltb q 15) (eqb 15 q) refl refl
  where
    go : (a b : Bool) → ltb q 15 ≡ a → eqb 15 q ≡ b → ltb q 15 && eqb 15 q ≡ false
    go false b e f = cc
    go true false e f = cc
    go true true e f = absurd (omega (arith, ltb-true q 15 e, eqb-true 15 q f))

value_written : (r : Registers) (t v q : ℕ) → length r ≡ 15 → value (written r t v) q ≡ cond (meets t q) v (value r q)
unfolding value written meets
value_written r t v q l = go (ltb q 15) (ltb t 15) (eqb t q) refl refl refl
  where
    go : (a b c : Bool) → ltb q 15 ≡ a → ltb t 15 ≡ b → eqb t q ≡ c → value (written r t v) q ≡ cond (meets t q) v (value r q)
    go false b c e f g = cc
    go true false false e f g = cc
    go true false true e f g = cc (eqb-true t q g)
    go true true false e f g = cc (get_or-set_other r t q v 0 (λ x. eqb-false t q g (sym x)))
    go true true true e f g = cc (get_or-set_same r t v 0 (omega (arith, ltb-true t 15 f)), eqb-true t q g)

pub length_written : (r : Registers) (t v : ℕ) → length (written r t v) ≡ length r
unfolding written
length_written r t v = go (ltb t 15)
  where
    go : (b : Bool) → length (cond b (set r t v) r) ≡ length r
    go true = length-set r t v
    go false = refl

-- a register after an instruction is what lies behind it, forwarded past its word and its result
pub value_after : (w : Accessed) (r : Registers) → length r ≡ 15 → (q : ℕ) → value (new_registers w r) q ≡ past_both (in_w w) q (value r q)
unfolding new_registers past_both
value_after w r l q =
    value_written (written r (result_target w.instruction w.holds) w.result) (loaded_target w.instruction) w.word q (length_written _ _ _ ∙ l)
    ∙ ap (λ x. cond (meets (loaded_target w.instruction) q) w.word x) (value_written r (result_target w.instruction w.holds) w.result q l)

-- so what W has written need not be forwarded
pub value_after_w : (w : StageW) (r : Registers) → length r ≡ 15 → (q : ℕ) → value (registers_after w r) q ≡ past_both w q (value r q)
unfolding registers_after past_both
value_after_w bubble_w r l q = refl
value_after_w (in_w w) r l q = value_after w r l q

pub length_after_w : (w : StageW) (r : Registers) → length (registers_after w r) ≡ length r
unfolding registers_after new_registers
length_after_w bubble_w r = refl
length_after_w (in_w w) r = length_written _ _ _ ∙ length_written _ _ _

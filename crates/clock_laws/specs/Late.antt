-- What is handed to a store in E sets no codes.
use Rattle.std.specs.Prelude.{◌≡◌, refl, Bool, true, false, ◌||◌}
use Rattle.std.proofs.Common.{sym, true≢false, eqb-true}
use Rattle.machine.specs.declared.Codes.{Codes}
use Rattle.machine.specs.declared.Decoded.{Decoded}
use Rattle.clocked.specs.Record.{StageE}
use Rattle.clocked.specs.Record.{bubble_e, in_e}
use Rattle.clocked.specs.Record.{StageW}
use Rattle.clocked.specs.Record.{bubble_w, in_w}
use Rattle.machine.specs.Table.{table, row_of, is}
use Rattle.machine.specs.Stages.{codes_by, new_codes}
use Rattle.clocked.specs.Prediction.{Core, rmmovq, pushq, takes_late}
use Rattle.clocked.specs.Pipeline.{handed_a, handed, codes_after}

pub handed_not : (g : Core) (w : StageW) (x : Decoded) → takes_late g x.instruction ≡ false → handed_a g w x ≡ x.a
unfolding handed_a
handed_not g bubble_w x h = refl
handed_not g (in_w w) x h = cc

-- neither rmmovq nor pushq sets codes
store_sets : (x : Decoded) (c : Codes) → is rmmovq x.instruction || is pushq x.instruction ≡ true → new_codes x c ≡ c
unfolding is new_codes codes_by row_of table
store_sets x c h = go (is rmmovq x.instruction) (is pushq x.instruction) refl refl h
  where
    go : (a b : Bool) → is rmmovq x.instruction ≡ a → is pushq x.instruction ≡ b → a || b ≡ true → new_codes x c ≡ c
    go true b p q k = rw (eqb-true x.instruction.code 4 p)
    go false true p q k = rw (eqb-true x.instruction.code 10 q)
    go false false p q k = absurd (true≢false (sym k))

pub codes_handed : (g : Core) (w : StageW) (e : StageE) (c : Codes) → codes_after (handed g w e) c ≡ codes_after e c
unfolding codes_after handed takes_late
codes_handed g w bubble_e c = refl
codes_handed g w (in_e x) c = go g.late (is rmmovq x.instruction || is pushq x.instruction) refl refl
  where
    go : (a b : Bool) → g.late ≡ a → is rmmovq x.instruction || is pushq x.instruction ≡ b → codes_after (handed g w (in_e x)) c ≡ codes_after (in_e x) c
    go true true p q = cc (store_sets x c q, store_sets (record { instruction = x.instruction; a = handed_a g w x; b = x.b }) c q)
    go true false p q = let h : takes_late g x.instruction ≡ false = cc in rw (handed_not g w x h)
    go false b p q = let h : takes_late g x.instruction ≡ false = cc in rw (handed_not g w x h)

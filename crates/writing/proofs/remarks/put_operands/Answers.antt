use native.Mathlib.Omega.{arith}
use Rattle.text.specs.Bytes.{bytes}
use Rattle.text.specs.Put.{put_nothing, put_both}
use Rattle.writing.specs.Remark.{operands}
use Rattle.writing.proofs.remarks.put_operands.Goals as goal

pub returns-in-Nothing : goal.returns-in-Nothing
unfolding operands
returns-in-Nothing c = rw (← c.operands_of.ensures, c.in-Nothing.is) (put_nothing _ (omega arith))

pub returns-in-Pair : goal.returns-in-Pair
unfolding operands bytes
returns-in-Pair c = rw (← c.operands_of.ensures, c.in-Pair.is) (put_both c.put_then_register.ensures c.put_then_register-in-Pair.ensures)

pub returns-in-Immediate : goal.returns-in-Immediate
unfolding operands bytes
returns-in-Immediate c =
    rw (← c.operands_of.ensures, c.in-Immediate.is) (put_both c.put_then_constant.ensures c.put_then_register-in-Immediate.ensures)

pub returns-in-Store : goal.returns-in-Store
unfolding operands bytes
returns-in-Store c =
    rw (← c.operands_of.ensures, c.in-Store.is)
    (put_both c.put_then_register-in-Store.ensures
    (put_both c.put_then_constant-in-Store.ensures (put_both c.put_then_register-in-Store-2.ensures c.byte.ensures)))

pub returns-in-Load : goal.returns-in-Load
unfolding operands bytes
returns-in-Load c =
    rw (← c.operands_of.ensures, c.in-Load.is)
    (put_both c.put_then_constant-in-Load.ensures (put_both c.put_then_register-in-Load.ensures c.put_then_register-in-Load-2.ensures))

pub returns-in-Target : goal.returns-in-Target
unfolding operands bytes
returns-in-Target c = rw (← c.operands_of.ensures, c.in-Target.is) c.put_then_constant-in-Target.ensures

pub returns-in-Single : goal.returns-in-Single
unfolding operands bytes
returns-in-Single c = rw (← c.operands_of.ensures, c.in-Single.is) c.put_then_register-in-Single.ensures

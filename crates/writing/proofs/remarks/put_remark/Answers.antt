use Rattle.writing.proofs.There.{size_is, shown}
use Rattle.machine.specs.Memory.{lent}
use Rattle.text.specs.Put.{put_both}
use native.Mathlib.Omega.{arith}
use Rattle.writing.proofs.remarks.put_remark.Goals as goal

pub constant_at-constant-requires : goal.constant_at-constant-requires
constant_at-constant-requires c =
    omega (arith, c.requires.0, size_is (lent c.args.memory.now) _ _ _ c.byte_at-first.ensures c.size_of.ensures)

pub returns : goal.returns
returns c =
    rw (← shown (lent c.args.memory.now) c.args.address _ _ _ _ c.byte_at-first.ensures c.byte_at-pair.ensures c.size_of.ensures c.constant_at-constant.ensures)
    (put_both c.put_mnemonic.ensures c.put_operands.ensures)

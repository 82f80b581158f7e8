use borrow.Author.Tests.{ne_eqb}
use native.Mathlib.Omega.{arith}
use Rattle.text.specs.Bytes.{bytes}
use Rattle.text.specs.Put.{put_both}
use Rattle.register_lines.specs.Registers.{register_line}
use Rattle.register_lines.proofs.put_register.Goals as goal

pub returns : goal.returns
unfolding register_line bytes
returns c = rw (ne_eqb c.args.v 0 (λ e. omega arith)) (put_both c.text.ensures c.put_named.ensures)

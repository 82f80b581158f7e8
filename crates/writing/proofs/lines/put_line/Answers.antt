use mathlib.Core.Path.{◌≡◌}
use Prim.Native.Nat.{◌+◌, ◌-◌}
use native.Mathlib.Omega.{arith}
use Rattle.listing.specs.Grammar.{line}
use Rattle.text.specs.Put.{put_both}
use Rattle.writing.proofs.lines.put_line.Goals as goal

pub returns : goal.returns
unfolding line
returns c =
    let e : c.args.address + c.args.count - c.args.address ≡ c.args.count = omega arith in
    put_both (put_both c.put_hex.ensures (put_both c.byte.ensures (put_both (rw e at c.put_pairs.ensures) c.put_note.ensures))) c.byte-2.ensures

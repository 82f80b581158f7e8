use Prim.Native.Nat.{◌<◌, ◌^◌}
use native.Mathlib.Omega.{arith}
use Rattle.peaks.specs.Mean.{mean_bits}
use Rattle.text.specs.Bytes.{bytes}
use Rattle.text.specs.Put.{put_both}
use Rattle.dayreport.specs.Lines.{found_lines}
use Rattle.dayreport.specs.Laws.{found_length}
use Rattle.dayreport.proofs.lines.put_found.Goals as goal

pub returns : goal.returns
unfolding found_lines bytes
returns c =
    let bits : mean_bits c.args.raw.mean < 2 ^ 64 = omega (arith, c.mean_bits.ensures) in
    record {
      put = put_both (put_both (put_both c.put_peak.ensures c.put_totals.ensures) (rw c.mean_bits.ensures at c.put_number.ensures)) c.put_filed.ensures;
      short = found_length c.args.day c.args.raw (omega arith) (omega arith) (omega arith) (omega arith) bits;
    }

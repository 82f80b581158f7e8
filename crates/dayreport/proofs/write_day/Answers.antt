use native.Mathlib.Omega.{arith}
use Rattle.text.specs.Put.{put_front}
use Rattle.dayreport.proofs.write_day.Goals as goal

pub returns : goal.returns
returns c = rw c.length.ensures (put_front c.new-writer.ensures c.put_day.ensures.put (omega arith))

use native.Mathlib.Omega.{arith}
use Rattle.text.specs.Bytes.{bytes}
use Rattle.text.specs.Put.{put_front}
use Rattle.dayreport.specs.Laws.{refusal_length}
use Rattle.dayreport.proofs.write_refusal.Goals as goal

pub returns : goal.returns
unfolding bytes
returns c = rw c.length.ensures (put_front c.new-writer.ensures c.put_number.ensures (omega (arith, refusal_length c.args.number (omega arith))))

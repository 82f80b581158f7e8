use Rattle.text.specs.Bytes.{bytes}
use Rattle.text.specs.Put.{put_both}
use Rattle.writing.specs.Remark.{register}
use Rattle.writing.proofs.words.put_register.Goals as goal

pub returns : goal.returns
unfolding register bytes
returns c = put_both c.byte.ensures (rw c.name_of.ensures at c.text.ensures)

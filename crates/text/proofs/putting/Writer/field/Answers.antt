use Rattle.text.specs.Put.{put_both}
use Rattle.text.proofs.putting.Writer.field.Goals as goal

pub returns : goal.returns
returns c = put_both c.decimal.ensures c.byte.ensures

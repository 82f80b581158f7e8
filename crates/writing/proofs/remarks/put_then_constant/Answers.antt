use Rattle.text.specs.Put.{put_both}
use Rattle.writing.proofs.remarks.put_then_constant.Goals as goal

pub returns : goal.returns
returns c = put_both c.text.ensures c.decimal.ensures

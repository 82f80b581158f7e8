use Rattle.text.specs.Put.{put_both}
use Rattle.writing.proofs.remarks.put_then_register.Goals as goal

pub returns : goal.returns
returns c = put_both c.text.ensures c.put_register.ensures

use Rattle.word.proofs.Bytes.{some_left}
use Rattle.word.proofs.eight_at.Goals as goal

pub returns : goal.returns
returns c =
    let part = c.in_ok-get.ensures.lookup.0 in
    some_left _ _ _ _ part.2 part.3 c.first_chunk.ensures.cases

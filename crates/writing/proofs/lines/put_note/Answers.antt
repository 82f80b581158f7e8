use native.Mathlib.Omega.{arith}
use Rattle.text.specs.Put.{put_nothing, put_both}
use Rattle.published.specs.Fetching.{aok_at}
use Rattle.listing.specs.Grammar.{remarked}
use Rattle.writing.proofs.lines.put_note.Goals as goal

pub put_remark-requires : goal.put_remark-requires
put_remark-requires c = (c.requires.0 c.if-whole.true, c.requires.1)

pub returns-then-whole : goal.returns-then-whole
unfolding remarked aok_at
returns-then-whole c = rw c.if-whole.true (put_both c.byte.ensures c.put_remark.ensures)

pub returns-else-whole : goal.returns-else-whole
unfolding remarked aok_at
returns-else-whole c = rw c.if-whole.false (put_nothing _ (omega arith))

use borrow.Author.Tests.{lt-ltb, le-ltb}
use Rattle.writing.specs.HexText.{hex_digit}
use Rattle.writing.proofs.hexes.put_digit.Goals as goal

pub returns-then-digit-lt10 : goal.returns-then-digit-lt10
unfolding hex_digit
returns-then-digit-lt10 c = rw (lt-ltb c.args.digit 10 c.if-digit-lt10.true) c.byte.ensures

pub returns-else-digit-lt10 : goal.returns-else-digit-lt10
unfolding hex_digit
returns-else-digit-lt10 c = rw (le-ltb c.args.digit 10 c.if-digit-lt10.false) c.byte-else-digit-lt10.ensures

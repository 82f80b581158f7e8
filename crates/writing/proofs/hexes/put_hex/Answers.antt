use Rattle.writing.specs.HexText.{hex_text}
use Rattle.writing.proofs.hexes.put_hex.Goals as goal

pub returns : goal.returns
unfolding hex_text
returns c = c.put_digits.ensures

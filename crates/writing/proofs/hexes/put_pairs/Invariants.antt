-- Byte by byte: the first bytes stand in the buffer with two digits each.
use lib.ListN.{take}
use Rattle.text.specs.Put.{Put}
use Rattle.writing.specs.HexText.{hex_pairs}
use Rattle.writing.proofs.hexes.put_pairs.Given as goal

abbrev pub invariant-loop-byte : goal.invariant-loop-byte
invariant-loop-byte l = Put (hex_pairs (take l.byte-index l.bytes)) l.fn.out l.out

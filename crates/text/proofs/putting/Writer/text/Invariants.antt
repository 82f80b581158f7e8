-- Byte by byte: what was put is the text's first bytes.
use lib.ListN.{take}
use Rattle.text.specs.Put.{Put}
use Rattle.text.proofs.putting.Writer.text.Given as goal

abbrev pub invariant-loop-byte : goal.invariant-loop-byte
invariant-loop-byte l = Put (take l.byte-index l.text) l.fn.self l.self

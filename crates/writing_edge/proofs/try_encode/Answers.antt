-- A refusal is handed on as it is; what is let in has its block of a word, and is written, or told how long it is.
use Rattle.writing_edge.proofs.Ways.{admitted, encode_refused_lem, encode_too_short, encode_fits}
use borrow.Author.Rules.{rules}
use native.Mathlib.Omega.{arith}
use Rattle.writing_edge.proofs.try_encode.Goals as goal

pub returns-in_err-admit_instruction : goal.returns-in_err-admit_instruction
returns-in_err-admit_instruction c = encode_refused_lem _ _ _ _ _ c.from_residual.ensures.1 c.in_err-admit_instruction.ensures

pub length-needed-requires : goal.length-needed-requires
length-needed-requires c = (admitted _ _ c.in_ok-admit_instruction.ensures).1

pub write_words-requires : goal.write_words-requires
write_words-requires c = omega (arith, (admitted _ _ c.in_ok-admit_instruction.ensures).0)

pub returns-then-bytes-needed : goal.returns-then-bytes-needed
returns-then-bytes-needed c =
    encode_too_short _ _ _ c.in_ok-admit_instruction.ensures _ _ c.length-needed.ensures c.write_words.ensures c.if-bytes-needed.true

pub put-requires : goal.put-requires
put-requires c = (admitted _ _ c.in_ok-admit_instruction.ensures).1

pub returns : goal.returns
returns c = let z = c.in_ok-admit_instruction.ensures in search (rules, encode_fits)

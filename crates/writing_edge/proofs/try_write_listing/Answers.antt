-- A refusal is handed on as it is; what is let in has its block of a word and a range in memory, and is written, or told how long it is.
use Rattle.writing_edge.proofs.Ways.{let_in, listing_refused, listing_too_short, listing_fits}
use borrow.Author.Rules.{rules}
use native.Mathlib.Omega.{arith}
use Rattle.writing_edge.proofs.try_write_listing.Goals as goal

pub returns-in_err-admit_listing : goal.returns-in_err-admit_listing
returns-in_err-admit_listing c = listing_refused _ _ _ _ _ _ _ c.from_residual.ensures.1 c.in_err-admit_listing.ensures

pub listing_length-needed-requires : goal.listing_length-needed-requires
listing_length-needed-requires c = (let_in _ _ _ _ c.in_ok-admit_listing.ensures).1

pub write_words-requires : goal.write_words-requires
write_words-requires c = omega (arith, (let_in _ _ _ _ c.in_ok-admit_listing.ensures).0)

pub put_listing-requires : goal.put_listing-requires
put_listing-requires c = (let_in _ _ _ _ c.in_ok-admit_listing.ensures).1

pub returns : goal.returns
returns c = let z = c.in_ok-admit_listing.ensures in search (rules, listing_fits)

pub returns-then-text-needed : goal.returns-then-text-needed
returns-then-text-needed c =
    listing_too_short _ _ _ _ _ c.in_ok-admit_listing.ensures _ _ c.listing_length-needed.ensures c.write_words.ensures c.if-text-needed.true

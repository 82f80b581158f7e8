-- Listings (#103): the promises of the reader and of the edge, and that each allows one answer only.
use Rattle.std.proofs.Common.{sym, ◌∙◌}
use Rattle.std.specs.Prelude.{List, ℕ}
use Rattle.text.specs.Parts.{Text}
use Rattle.listing.specs.Reading.{Answered, listed}
use Rattle.listing_edge.specs.Listings.{ListingEdge, listing_read}
use Rattle.cases.specs.Promises.{Operation}
use Rattle.cases.specs.Single.{OneAnswer}

-- listing::read: the text, and memory as lent; the answer, and memory afterwards
abbrev pub listing_read_lem : Operation
listing_read_lem = record { Given = Text × List ℕ; Answer = Answered; promised = λ x. listed x.0 x.1 }

-- edge::y86_read_listing: the text, memory and the fault's block as lent; the answer, and both afterwards
abbrev pub edge_listing : Operation
edge_listing = record { Given = Text × List ℕ × List ℕ; Answer = ListingEdge; promised = λ x. listing_read x.0 x.1 x.2 }

pub one_listing_read : OneAnswer listing_read_lem
one_listing_read x r s a b = a ∙ sym b

pub one_edge_listing : OneAnswer edge_listing
one_edge_listing x r s a b = a ∙ sym b

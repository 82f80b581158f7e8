-- What is known of a line that is right. That it is so is proved in proofs/ReadingLaws.antt.
use Rattle.std.specs.Prelude.{◌≡◌, false, ℕ, ◌≤◌}
use Rattle.listing.specs.Grammar.{Record, address_of, end_of}
use Rattle.listing.specs.Reading.{malformed, miscounted}

pub record Fine (size free : ℕ) (r : Record) (next : ℕ) : Type 0 where
  pub formed : malformed r ≡ false
  pub counted : miscounted r ≡ false
  pub above : free ≤ address_of r
  pub within : end_of r ≤ size
  pub then : end_of r ≡ next

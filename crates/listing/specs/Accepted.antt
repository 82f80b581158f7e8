-- The texts that are accepted. That they are what the grammar writes, and are read as what they were written from, is proved in proofs/Accepted.antt.
use Rattle.std.specs.Prelude.{◌≡◌, ℕ}
use Rattle.text.specs.Parts.{Text}
use Rattle.listing.specs.Reading.{good, verdict}

abbrev pub Accepted : ℕ → Text → Type 0
Accepted size t = verdict size t ≡ good

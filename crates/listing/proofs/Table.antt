-- Every case of the table holds.
use Rattle.std.specs.Prelude.{true, ◌≡◌, refl}
use Rattle.text.specs.Bytes.{bytes}
use Rattle.text.specs.Parts.{has, before, behind, lines}
use Rattle.text.specs.Hex.{is_hex, hex_value, all_hex, hex_from, hex_number, hex_bytes}
use Rattle.machine.specs.Runs.{size_refused}
use Rattle.listing.specs.Grammar.{address_of, bytes_of, end_of, laid, image_of}
use Rattle.listing.specs.Reading.{kind_number, record_of, records, missing, malformed, miscounted, in_place, fault, lowest_kind, checked, goes_on, judged}
use Rattle.listing.specs.Reading.{verdict, done, listed}
use Rattle.listing.specs.Table.{same, answers, holds, all_hold, cases}

-- every case holds
pub cases_hold : all_hold cases ≡ true
unfolding cases all_hold holds answers same bytes has before behind lines is_hex hex_value all_hex hex_from hex_number hex_bytes size_refused address_of bytes_of end_of laid image_of kind_number record_of records missing malformed miscounted in_place fault lowest_kind checked goes_on judged verdict done listed
cases_hold = refl

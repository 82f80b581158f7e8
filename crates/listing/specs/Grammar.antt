-- What a listing is, and what it means, apart from any reader. #103: "one record a line, fields parted by tabs: address in hex (1 to 16 digits),
-- bytes in hex (two digits each, 1 to 16 bytes), and an optional remark, the rest of the line. Digits may be of either case."
use Rattle.std.specs.Prelude.{ℕ, ◌+◌, ◌*◌, ◌≤◌, ◌≡◌, true, false, List, [], ◌∷◌, ◌++◌, length, replicate, Option, None, Some}
use Rattle.std.proofs.lemmas.List.Edits.{sets}
use Rattle.text.specs.Parts.{Text, has, tab, line_feed}
use Rattle.text.specs.Hex.{all_hex, hex_number, hex_bytes}

-- "an optional remark, the rest of the line", tabs in it included
abbrev pub Remark : Type 0
Remark = Option Text

pattern abbrev pub none : Remark
none = None

pattern abbrev pub some : Text → Remark
some s = Some s

-- a record: the digits of its address and of its bytes, and its remark
pub record Record : Type 0 where
  pub address : Text
  pub bytes : Text
  pub remark : Remark

-- HOW IT IS WRITTEN
unfoldable pub remarked : Remark → Text
remarked none = []
remarked (some s) = tab ∷ s

-- "fields parted by tabs"
unfoldable pub line : Record → Text
line r = r.address ++ tab ∷ (r.bytes ++ remarked r.remark)

-- "one record a line": each ended by a line feed
unfoldable pub written : List Record → Text
written [] = []
written (r ∷ rs) = line r ++ line_feed ∷ written rs

-- WHAT IT MEANS
unfoldable pub address_of : Record → ℕ
address_of r = hex_number r.address

unfoldable pub bytes_of : Record → List ℕ
bytes_of r = hex_bytes r.bytes

-- the first address behind its bytes
unfoldable pub end_of : Record → ℕ
end_of r = address_of r + length (bytes_of r)

-- memory with the bytes of these records, each from its address on
unfoldable pub laid : List Record → List ℕ → List ℕ
laid [] m = m
laid (r ∷ rs) m = laid rs (sets m (address_of r) (bytes_of r))

-- "unnamed bytes become 0"
unfoldable pub image_of : ℕ → List Record → List ℕ
image_of size rs = laid rs (replicate size 0)

-- WHICH RECORDS MAKE A LISTING
-- "address in hex (1 to 16 digits), bytes in hex (two digits each, 1 to 16 bytes)"; a remark stays on its line
pub record WellFormed (r : Record) : Type 0 where
  pub address_hex : all_hex r.address ≡ true
  pub address_digits : (1 ≤ length r.address) × (length r.address ≤ 16)
  pub bytes_hex : all_hex r.bytes ≡ true
  pub bytes_digits : (n : ℕ) × (length r.bytes ≡ 2 * n) × (1 ≤ n) × (n ≤ 16)
  pub on_its_line : has line_feed (remarked r.remark) ≡ false

-- "Lines ascend, without overlap, and fit in the lent memory" of this size; free is the first address behind the last byte given, 0 at first
pub data Listing (size : ℕ) : ℕ → List Record → Type 0 where
  end : {free : ℕ} → Listing size free []
  more : {free : ℕ} {r : Record} {rs : List Record} → WellFormed r → free ≤ address_of r → end_of r ≤ size → Listing size (end_of r) rs
      → Listing size free (r ∷ rs)

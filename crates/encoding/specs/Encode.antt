-- "Give an encoder too: every valid instruction encodes to its one form with F fillers" (02, #104).
use Rattle.std.specs.Prelude.{ℕ, zero, suc, ◌+◌, ◌*◌, ◌/◌, ◌%◌, Bool, cond, ◌&&◌, ◌||◌, List, [], ◌∷◌, ◌++◌, leb, ltb}
use Rattle.machine.specs.Table.{RegisterByte, row_of}
use Rattle.machine.specs.Fetch.{names_a, names_b, half}
pub use Rattle.encoding.specs.declared.Fields.{Fields}

abbrev pub fields : (code function ra rb constant : ℕ) → Fields
fields c f a b v = record { code = c; function = f; ra = a; rb = b; constant = v }

-- "The encoder gives 5 for a named register over 14 or a function not in the table."
unfoldable pub encode_refused : Fields → Bool
encode_refused i =
    let row = row_of i.code in
    leb row.functions i.function || ((names_a row.byte && ltb 14 i.ra) || (names_b row.byte && ltb 14 i.rb))

-- the k lowest bytes of a number, least first
unfoldable pub least_first : (k v : ℕ) → List ℕ
least_first zero v = []
least_first (suc k) v = v % 256 ∷ least_first k (v / 256)

-- the register byte rA:rB where there is one, F in place of the half that names no register
unfoldable pub pair : RegisterByte → (ra rb : ℕ) → List ℕ
pair y a b = cond (names_a y || names_b y) ((16 * half (names_a y) a + half (names_b y) b) ∷ []) []

-- the 8-byte constant, in an instruction that is longer than that
unfoldable pub tail : (size constant : ℕ) → List ℕ
tail size v = cond (ltb 8 size) (least_first 8 v) []

-- "First byte is code and function; then, by code, a register byte rA:rB and an 8-byte constant C."
unfoldable pub form : Fields → List ℕ
form i =
    let row = row_of i.code in
    (16 * i.code + i.function) ∷ (pair row.byte i.ra i.rb ++ tail row.size i.constant)

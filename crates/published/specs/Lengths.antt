-- The rules of the table's lengths and functions, each by one test computed over its rows.
use Rattle.std.specs.Prelude.{ℕ, zero, suc, ◌+◌, ◌-◌, ◌≤◌, ◌≡◌, Bool, true, false, cond, ◌&&◌, ◌||◌, List, [], ◌∷◌, T, ltb, eqb, get_or, drop}
use Rattle.std.proofs.Common.{ap, sym, ◌∙◌, arith, eqb→eq, get_or-drop}
use Rattle.machine.specs.Fetch.{names_a, names_b}
use Rattle.machine.specs.Table.{Row, RegisterByte, table, no_row, row_of, unknown_code}

-- is there a register byte: it names one register at least
unfoldable pub has_register_byte : RegisterByte → Bool
has_register_byte y = names_a y || names_b y

-- the length that the parts of an instruction add up to: the first byte, a register byte, an 8-byte constant
unfoldable pub parts : Row → ℕ
parts row = 1 + cond (has_register_byte row.byte) 1 0 + cond (ltb 8 row.size) 8 0

-- a test holds of every row of a list
abbrev pub every : (Row → Bool) → List Row → Bool
every f [] = true
every f (x ∷ xs) = f x && every f xs

both : (a b : Bool) → T (a && b) → T a × T b
both true b t = (tt, t)
both false b t = absurd t

-- and then of the row at any place, the default included
at : (f : Row → Bool) (xs : List Row) (d : Row) → T (every f xs) → T (f d) → (k : ℕ) → T (f (get_or xs k d))
at f [] d t e k = e
at f (x ∷ xs) d t e zero = (both (f x) (every f xs) t).0
at f (x ∷ xs) d t e (suc k) = at f xs d (both (f x) (every f xs) t).1 e k

-- so a test that is computed over the table holds of every code's row
pub every_row : (f : Row → Bool) → T (every f table) → T (f no_row) → (code : ℕ) → T (f (row_of code))
unfolding row_of
every_row f t e code = at f table no_row t e code

-- the rule: the length of a row is that of its parts
pub length_rule : (code : ℕ) → (row_of code).size ≡ parts (row_of code)
unfolding table parts has_register_byte names_a names_b
length_rule code = eqb→eq _ _ (every_row (λ row. eqb row.size (parts row)) tt tt code)

-- the rule: from the first code without functions on there are none
pub no_functions : (code : ℕ) → unknown_code ≤ code → (row_of code).functions ≡ 0
unfolding table row_of
no_functions code h =
    let e : code ≡ unknown_code + (code - unknown_code) = omega arith in
    ap (λ (k : ℕ). (get_or table k no_row).functions) e
    ∙ ap (λ (row : Row). row.functions) (sym (get_or-drop unknown_code table (code - unknown_code) no_row))
    ∙ eqb→eq _ _ (at (λ row. eqb row.functions 0) (drop unknown_code table) no_row tt tt (code - unknown_code))

-- with a register byte there are two bytes at least
pub two : (row : Row) → T (has_register_byte row.byte) → 2 ≤ parts row
unfolding parts
two row t = go (has_register_byte row.byte) t
  where
    go : (b : Bool) → T b → 2 ≤ 1 + cond b 1 0 + cond (ltb 8 row.size) 8 0
    go true t = omega arith
    go false t = absurd t

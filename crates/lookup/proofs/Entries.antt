-- A column of the constant tables means the rows' entries in it. Assumes nothing.
use Rattle.std.specs.Prelude.{ℕ, ◌≡◌, List, get_or}
use mathlib.Core.List.{map}
use mathlib.Core.Path.{ap, sym, ◌∙◌}
use lib.ListN.{get_or-map}
use Rattle.machine.specs.Table.{Row, no_row, table, row_of}

-- the entry at a code means the row's, where the column means the table's and the entry of a code without a row that of no row
pub column : {A B : Type 0} (m : A → B) (f : Row → B) (l : List A) (code : ℕ) (d r : A) → r ≡ get_or l code d
    → map m l ≡ map f table → m d ≡ f no_row → m r ≡ f (row_of code)
unfolding row_of
column m f l code d r e same none = ap m e ∙ (sym (get_or-map m l code d) ∙ (both ∙ get_or-map f table code no_row))
  where
    both : get_or (map m l) code (m d) ≡ get_or (map f table) code (f no_row)
    both = cc

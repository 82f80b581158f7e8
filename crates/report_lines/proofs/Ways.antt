-- The four lines of the counts, put one behind another. Assumes nothing.
use Rattle.std.specs.Prelude.{◌≡◌, List, ℕ}
use Rattle.clocked.specs.declared.Pipeline.{Pipeline}
use Rattle.machine.specs.Types.{codes_number}
use Rattle.text.specs.PutAt.{PutAt, put_both}
use Rattle.report_lines.specs.Lines.{number_line, count_lines}

pub counts : {a b c d e : List ℕ} {at i j k r : ℕ} (p : Pipeline) (n : ℕ) → n ≡ codes_number p.codes → PutAt (number_line "last" p.last) at a i b
    → PutAt (number_line "codes" n) i b j c → PutAt (number_line "retired" p.retired) j c k d → PutAt (number_line "cycles" p.cycles) k d r e
    → PutAt (count_lines p) at a r e
unfolding count_lines
counts p n h x y z w = put_both (put_both (put_both x (rw h at y)) z) w

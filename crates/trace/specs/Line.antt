-- A line of a trace (02, #108).
use Rattle.std.specs.Prelude.{ℕ, cond, List, ◌++◌, ltb}
use Rattle.machine.specs.declared.Accessed.{Accessed}
use Rattle.machine.specs.Types.{is_bad}
use Rattle.machine.specs.Stages.{result_target, loaded_target}
use Rattle.text.specs.Bytes.{bytes}
use Rattle.text.specs.Decimal.{decimal}
use Rattle.report_lines.specs.Lines.{line}
use Rattle.register_lines.specs.Registers.{register_name}

-- "For popq the target is rA. For pushq, call and ret it is rsp; a false cmov, a stopping instruction and any other without a target" has
-- none, 15: the loaded word's target, where there is one, and else the result's
unfoldable pub target_of : Accessed → ℕ
target_of w =
    let loaded = loaded_target w.instruction in
    cond (is_bad w.status) 15 (cond (ltb loaded 15) loaded (result_target w.instruction w.holds))

-- "target register name or a dash"
unfoldable pub target_text : ℕ → List ℕ
target_text q = cond (ltb q 15) (bytes (register_name q)) (bytes "-")

-- "a tab-parted line for each, ended by a line feed (else wrong): instruction number from 1, address, cycle, target register name or a dash, and
-- its value afterwards. Numbers are unsigned decimal without leading zeros."
unfoldable pub trace_line : (number address cycle target value : ℕ) → List ℕ
trace_line k a y q v = decimal k ++ bytes "\t" ++ decimal a ++ bytes "\t" ++ decimal y ++ bytes "\t" ++ line (target_text q) (decimal v)

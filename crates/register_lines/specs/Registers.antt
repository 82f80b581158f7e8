-- Document 01's "Program": the registers' lines.
use Rattle.std.specs.Prelude.{◌≡◌, ℕ, zero, suc, ◌*◌, ◌^◌, ◌<◌, ◌≤◌, Bool, true, false, cond, List, [], ◌∷◌, ◌++◌, eqb, length, get_or}
use Rattle.std.proofs.Common.{arith, length-append, eq-eqb}
use Prim.Native.String.{String}
use Rattle.text.specs.Bytes.{bytes, longest, at_most_longest}
use Rattle.report_lines.specs.Lines.{number_line, number_length}

-- "Fifteen registers .. 0 to 14: rax rcx rdx rbx rsp rbp rsi rdi r8 to r14"
unfoldable pub register_names : List String
register_names =
    "rax"
    ∷ "rcx"
    ∷ "rdx"
    ∷ "rbx"
    ∷ "rsp"
    ∷ "rbp"
    ∷ "rsi"
    ∷ "rdi"
    ∷ "r8"
    ∷ "r9"
    ∷ "r10"
    ∷ "r11"
    ∷ "r12"
    ∷ "r13"
    ∷ "r14"
    ∷ []

unfoldable pub register_name : ℕ → String
register_name k = get_or register_names k ""

-- "Then `reg`, name, unsigned value for each register not 0"
unfoldable pub register_line : ℕ → ℕ → List ℕ
register_line k v = cond (eqb v 0) [] (bytes "reg" ++ bytes "\t" ++ number_line (register_name k) v)

pub no_line : (k v : ℕ) → v ≡ 0 → register_line k v ≡ []
unfolding register_line
no_line k v h = rw (eq-eqb v 0 h)

-- "in number order": the lines of the registers below k
unfoldable pub register_lines : ℕ → List ℕ → List ℕ
register_lines zero registers = []
register_lines (suc k) registers = register_lines k registers ++ register_line k (get_or registers k 0)

-- HOW LONG THEY ARE
pub name_length : (k : ℕ) → length (bytes (register_name k)) ≤ 3
unfolding register_name register_names longest bytes
name_length k = at_most_longest register_names k

pub register_length : (k v : ℕ) → v < 2 ^ 64 → length (register_line k v) ≤ 29
unfolding register_line bytes
register_length k v h = go (eqb v 0)
  where
    go : (t : Bool) → length (cond t [] (bytes "reg" ++ bytes "\t" ++ number_line (register_name k) v)) ≤ 29
    go true = omega arith
    go false = simp length-append (omega (arith, number_length (bytes (register_name k)) v h, name_length k))

pub registers_length : (k : ℕ) (registers : List ℕ) → ((i : ℕ) → get_or registers i 0 < 2 ^ 64) → length (register_lines k registers) ≤ 29 * k
unfolding register_lines
registers_length zero registers h = omega arith
registers_length (suc k) registers h =
    simp length-append (omega (arith, registers_length k registers h, register_length k (get_or registers k 0) (h k)))

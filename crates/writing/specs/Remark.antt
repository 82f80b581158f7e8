-- "the remark being the instruction in CS:APP's notation, constants in unsigned decimal and never left out" (02, #104).
use Rattle.std.specs.Prelude.{ℕ, List, [], ◌∷◌, ◌++◌, get_or}
use Prim.Native.String.{String}
use Rattle.machine.specs.declared.Instruction.{Instruction}
use Rattle.machine.specs.declared.Status.{Status}
use Rattle.machine.specs.declared.Status.TheVariants.{Aok as aok, Hlt as hlt, Adr as adr, Ins as ins}
use Rattle.text.specs.Bytes.{bytes}
use Rattle.text.specs.Decimal.{decimal}
use Rattle.text.specs.Parts.{Text}
use Rattle.register_lines.specs.Registers.{register_name}
pub use Rattle.writing.specs.declared.remarks.Operands.{Operands}
pub use Rattle.writing.specs.declared.remarks.Operands.TheVariants.{Nothing as nothing, Pair as pair, Immediate as immediate, Store as store, Load as load}
pub use Rattle.writing.specs.declared.remarks.Operands.TheVariants.{Target as target, Single as single}

-- the instructions' names, by code and function
unfoldable pub mnemonics : List (List String)
mnemonics =
    ("halt" ∷ [])
    ∷ ("nop" ∷ [])
    ∷ ("rrmovq" ∷ "cmovle" ∷ "cmovl" ∷ "cmove" ∷ "cmovne" ∷ "cmovge" ∷ "cmovg" ∷ [])
    ∷ ("irmovq" ∷ [])
    ∷ ("rmmovq" ∷ [])
    ∷ ("mrmovq" ∷ [])
    ∷ ("addq" ∷ "subq" ∷ "andq" ∷ "xorq" ∷ [])
    ∷ ("jmp" ∷ "jle" ∷ "jl" ∷ "je" ∷ "jne" ∷ "jge" ∷ "jg" ∷ [])
    ∷ ("call" ∷ [])
    ∷ ("ret" ∷ [])
    ∷ ("pushq" ∷ [])
    ∷ ("popq" ∷ [])
    ∷ ("iaddq" ∷ [])
    ∷ []

unfoldable pub mnemonic : (code function : ℕ) → Text
mnemonic code function = bytes (get_or (get_or mnemonics code []) function "")

-- what stands behind the name, by code
unfoldable pub operands_of : List Operands
operands_of =
    nothing  -- halt
    ∷ nothing  -- nop
    ∷ pair  -- cmovXX
    ∷ immediate  -- irmovq
    ∷ store  -- rmmovq
    ∷ load  -- mrmovq
    ∷ pair  -- OPq
    ∷ target  -- jXX
    ∷ target  -- call
    ∷ nothing  -- ret
    ∷ single  -- pushq
    ∷ single  -- popq
    ∷ immediate  -- iaddq
    ∷ []

unfoldable pub register : ℕ → Text
register k = bytes "%" ++ bytes (register_name k)

unfoldable pub operands : Operands → (ra rb constant : ℕ) → Text
operands nothing a b c = []
operands pair a b c = bytes " " ++ register a ++ (bytes ", " ++ register b)
operands immediate a b c = bytes " $" ++ decimal c ++ (bytes ", " ++ register b)
operands store a b c = bytes " " ++ register a ++ (bytes ", " ++ decimal c ++ (bytes "(" ++ register b ++ bytes ")"))
operands load a b c = bytes " " ++ decimal c ++ (bytes "(" ++ register b ++ (bytes "), " ++ register a))
operands target a b c = bytes " " ++ decimal c
operands single a b c = bytes " " ++ register a

-- an instruction as it was fetched; a halt is fetched as a nop with HLT
unfoldable pub remark : Status → Instruction → Text
remark aok i = mnemonic i.code i.function ++ operands (get_or operands_of i.code nothing) i.ra i.rb i.constant
remark hlt i = mnemonic 0 0
remark adr i = []
remark ins i = []

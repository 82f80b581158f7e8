-- Memory and the register file.
use Rattle.std.specs.Prelude.{ℕ, ◌+◌, min, Bool, cond, List, ltb, length, get_or, set}
use Rattle.machine.specs.Types.{Window, no_window, within}
use Rattle.machine.specs.Words.{number, placed}

-- "Memory is N lent bytes": a value that holds all that decides what an address reaches: the bytes, and the code window (02, #113),
-- through which alone instructions are fetched, and which loads and stores do not look at
pub record Memory : Type 0 where
  pub bytes : List ℕ
  pub window : Window

-- the memory made of what is lent, the values of its bytes, each below 256
abbrev pub lent : List ℕ → Memory
lent b = record { bytes = b; window = no_window }

-- the same memory with other bytes, and seen through another window
abbrev pub holding : Memory → List ℕ → Memory
holding m b = record { bytes = b; window = m.window }

abbrev pub through : Window → Memory → Memory
through w m = record { bytes = m.bytes; window = w }

-- N
abbrev pub size : Memory → ℕ
size m = length m.bytes

-- n, or what a window leaves of it for an instruction at a: "an instruction byte outside the window is ADR as if outside memory" (02, #113),
-- so before the window's first address there is not even a first byte
unfoldable pub seen_to : Window → (n a : ℕ) → ℕ
seen_to no_window n a = n
seen_to (within (first, end)) n a = min (cond (ltb a first) a end) n

-- where the bytes end that an instruction at a may have: at N, or where the window ends
unfoldable pub code_end : Memory → ℕ → ℕ
code_end m a = seen_to m.window (size m) a

-- "Fifteen registers of 64 bits, 0 to 14": the list of their values, of the length that the record's array has
abbrev pub Registers : Type 0
Registers = List ℕ

-- "A word at address a is inside exactly when a + 7, without wrapping, is below N"
unfoldable pub inside : Memory → ℕ → Bool
inside m a = ltb (a + 7) (size m)

-- the word at a; "A load outside memory reads 0"
unfoldable pub load : Memory → ℕ → ℕ
load m a = cond (inside m a) (number 8 m.bytes a) 0

-- memory with the word v at a; "a store outside writes nothing"
unfoldable pub store : Memory → ℕ → ℕ → Memory
store m a v = cond (inside m a) (holding m (placed 8 m.bytes a v)) m

-- "Register 15 as a source reads 0"
unfoldable pub value : Registers → ℕ → ℕ
value r q = cond (ltb q 15) (get_or r q 0) 0

-- "as a target it writes nothing"
unfoldable pub written : Registers → ℕ → ℕ → Registers
written r q v = cond (ltb q 15) (set r q v) r

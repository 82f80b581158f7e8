-- Which bytes an instruction of the plain engine looks at, and two images that differ only at others.
use Rattle.std.specs.Prelude.{ℕ, ◌+◌, ◌/◌, ◌%◌, Bool, true, false, cond, ◌&&◌, ◌||◌, ◌≢◌, ◌≡◌, ltb, leb, length}
use Rattle.clocked.specs.declared.Pipeline.{Pipeline}
use Rattle.machine.specs.Memory.{Memory, holding, size, code_end, inside}
use Rattle.machine.specs.Table.{row_of}
use Rattle.machine.specs.Fetch.{misnamed}
use Rattle.machine.specs.Stages.{loads, access_address}
use Rattle.machine.specs.Plain.{Plain, is_stopped, fetched, executed, steps}
use Rattle.clocked.specs.Premise.{has_byte, Premise}
use Rattle.clocked.specs.Prediction.{Core}
use Rattle.clocked.specs.Pipeline.{Piped, clocks}
use Rattle.published.specs.Fetching.{M₁}
use Rattle.account.specs.Statement.{Start, plain_from, piped_from}

-- how many bytes of an instruction its fetch looks at, where none of them is missing and code and function are in the table: two, where the register
-- byte names a register 15; else all
abbrev pub looked_on : (misnamed : Bool) (length : ℕ) → ℕ
looked_on b n = cond b 2 n

-- of the instruction at a, as far as there are any: the first alone, where code and function decide, or that a later byte is missing
unfoldable pub looked : Memory → ℕ → ℕ
looked m a =
    let row = row_of (M₁ m a / 16) in
    cond (leb row.functions (M₁ m a % 16) || ltb (code_end m a) (a + row.size)) 1
    (looked_on (misnamed row.byte (M₁ m (a + 1) / 16) (M₁ m (a + 1) % 16)) row.size)

-- the fetch of the instruction performed at s looks at the byte at x
unfoldable pub looks_at : Plain → ℕ → Bool
looks_at s x =
    let a = s.machine.address in
    leb a x && (ltb x (a + looked s.memory a) && ltb x (code_end s.memory a))

-- the instruction performed at s reads the byte at x as data: "A load outside memory" reads none
unfoldable pub reads_byte : Plain → ℕ → Bool
reads_byte s x =
    let a = access_address (executed s) in
    loads (fetched s) && (inside s.memory a && (leb a x && ltb x (a + 8)))

-- no instruction that the plain engine performs from s does f to the byte at x
abbrev pub Never : (Plain → ℕ → Bool) → Plain → ℕ → Type 0
Never f s x = (n : ℕ) → is_stopped (steps s n) ≡ false → f (steps s n) x ≡ false

-- THE BYTE AT x PLAYS NO PART in the plain engine's run from s: it "neither fetches as instruction bytes nor reads as data" that byte (02, #112), where
-- what is fetched is what fetch looks at
abbrev pub NoPart : Plain → ℕ → Type 0
NoPart s x = Never looks_at s x × Never reads_byte s x

-- or where it is all that are an instruction's bytes in document 01's words: "its table length from its address, cut at N"
abbrev pub NoPartAsIn01 : Plain → ℕ → Type 0
NoPartAsIn01 s x = Never has_byte s x × Never reads_byte s x

-- TWO IMAGES "of the same size", that "differ only at addresses" of which P holds, and in nothing but their bytes
pub record DifferOnlyAt (P : ℕ → Type 0) (m m' : Memory) : Type 0 where
  pub rest : m' ≡ holding m m'.bytes
  pub sizes : size m ≡ size m'
  pub only : (x : ℕ) → M₁ m x ≢ M₁ m' x → P x

-- two memories of the same size that "differ at most at" the addresses at which the images m and m' differ
abbrev pub AtMost : (m m' u u' : Memory) → Type 0
AtMost m m' u u' = DifferOnlyAt (λ x. M₁ m x ≢ M₁ m' x) u u'

-- the "same start" with another image
abbrev pub imaged : Start → Memory → Start
imaged t m = record { settings = t.settings; registers = t.registers; codes = t.codes; address = t.address; memory = m }

-- WHAT IS THE SAME on both images
-- of the plain engine, after as many steps: the whole record and the log
pub record SameStep (m m' : Memory) (s s' : Plain) : Type 0 where
  pub machine : s.machine ≡ s'.machine
  pub log : s.log ≡ s'.log
  pub memory : AtMost m m' s.memory s'.memory

-- of the pipeline's record: all but the stages D to W and the predicted address
pub record SameRecord (k k' : Pipeline) : Type 0 where
  pub settings : k.settings ≡ k'.settings
  pub registers : k.registers ≡ k'.registers
  pub codes : k.codes ≡ k'.codes
  pub status : k.status ≡ k'.status
  pub last : k.last ≡ k'.last
  pub retired : k.retired ≡ k'.retired
  pub cycles : k.cycles ≡ k'.cycles
  pub kinds : k.kinds ≡ k'.kinds
  pub kept : k.kept ≡ k'.kept
  pub blame : k.blame ≡ k'.blame

-- of the pipeline, after as many clocks
pub record SameClock (m m' : Memory) (p p' : Piped) : Type 0 where
  pub pipeline : SameRecord p.pipeline p'.pipeline
  pub addresses : p.address_log ≡ p'.address_log
  pub cycles : p.cycle_log ≡ p'.cycle_log
  pub memory : AtMost m m' p.memory p'.memory

-- #112: "take two images of the same size, same start, that differ only at addresses which the plain engine's run on the first neither fetches as
-- instruction bytes nor reads as data. Where the plain run on the first stops within its budget and meets demand 3's premise, each engine gives" the
-- same after every step and after every clock, whatever the core
abbrev pub BytesThatPlayNoPart : (Plain → ℕ → Type 0) → Type 0
BytesThatPlayNoPart P =
    (g : Core) (t : Start) (m' : Memory) → length t.registers ≡ 15 → DifferOnlyAt (P (plain_from t)) t.memory m'
    → (budget : ℕ) → is_stopped (steps (plain_from t) budget) ≡ true → Premise (plain_from t) budget
    → ((n : ℕ) → SameStep t.memory m' (steps (plain_from t) n) (steps (plain_from (imaged t m')) n))
    × ((c : ℕ) → SameClock t.memory m' (clocks g (piped_from t) c) (clocks g (piped_from (imaged t m')) c))

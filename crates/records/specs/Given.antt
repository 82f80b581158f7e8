-- What a row gives: an image, instructions, and a record made from a fresh one by named changes.
use Rattle.std.specs.Prelude.{ℕ, zero, suc, ◌+◌, ◌-◌, ◌/◌, ◌%◌, ◌^◌, Bool, true, false, List, [], ◌∷◌, ◌++◌, eqb, set, replicate}
use Rattle.machine.specs.Memory.{Memory, lent, Registers}
use Rattle.machine.specs.Table.{unknown_code}
use Rattle.clocked.specs.Prediction.{as_in_01}
use Rattle.clocked.specs.Pipeline.{pipe_start}
use Rattle.records.specs.Names.{Status, aok, Option, Fault, no_fault, Codes, Instruction, StageD, in_d, StageE, in_e, StageM, in_m, StageW, in_w, Kept, last_kept, Kinds}
use Rattle.records.specs.Names.{Settings, no_window, within, Pipeline}

-- MEMORY
-- the k bytes of a number in the order in which they are written
abbrev spelled : ℕ → ℕ → List ℕ
spelled zero x = []
spelled (suc k) x = x / 256 ^ k % 256 ∷ spelled k x

-- memory of size bytes: the first ones as they are written, then zeros
abbrev pub image : (size bytes written : ℕ) → Memory
image n k x = lent (spelled k x ++ replicate (n - k) 0)

-- memory of size bytes that are all the same
abbrev pub filled : (size byte : ℕ) → Memory
filled n x = lent (replicate n x)

-- memory of no bytes
abbrev pub empty : Memory
empty = filled 0 0

-- REGISTERS AND CODES
-- each register is 0 but those given
abbrev pub given : List (ℕ × ℕ) → Registers
given [] = replicate 15 0
given (q ∷ qs) = set (given qs) q.0 q.1

-- codes by their number, 4ZF + 2SF + OF
abbrev pub coded : ℕ → Codes
coded n = record { zf = eqb (n / 4) 1; sf = eqb (n / 2 % 2) 1; of = eqb (n % 2) 1 }

-- INSTRUCTIONS, as they are fetched with AOK at an address, which comes last
abbrev pub instruction : (code function ra rb constant size address : ℕ) → Instruction
instruction k f x y c n a = record { address = a; status = aok; code = k; function = f; ra = x; rb = y; constant = c; next = a + n; fault = no_fault }

abbrev pub nop : ℕ → Instruction
nop = instruction 1 0 15 15 0 1

abbrev pub cmov : (function ra rb : ℕ) → ℕ → Instruction
cmov f x y = instruction 2 f x y 0 2

abbrev pub irmovq : (constant rb : ℕ) → ℕ → Instruction
irmovq c y = instruction 3 0 15 y c 10

abbrev pub rmmovq : (ra constant rb : ℕ) → ℕ → Instruction
rmmovq x c y = instruction 4 0 x y c 10

abbrev pub mrmovq : (constant rb ra : ℕ) → ℕ → Instruction
mrmovq c y x = instruction 5 0 x y c 10

abbrev pub operation : (function ra rb : ℕ) → ℕ → Instruction
operation f x y = instruction 6 f x y 0 2

abbrev pub jump : (function constant : ℕ) → ℕ → Instruction
jump f c = instruction 7 f 15 15 c 9

abbrev pub call : (constant : ℕ) → ℕ → Instruction
call c = instruction 8 0 15 15 c 9

abbrev pub ret : ℕ → Instruction
ret = instruction 9 0 15 15 0 1

abbrev pub pushq : (ra : ℕ) → ℕ → Instruction
pushq x = instruction 10 0 x 15 0 2

abbrev pub popq : (ra : ℕ) → ℕ → Instruction
popq x = instruction 11 0 x 15 0 2

abbrev pub iaddq : (constant rb : ℕ) → ℕ → Instruction
iaddq c y = instruction 12 0 15 y c 10

-- an instruction of a code that the table has no functions for
abbrev pub unknown : ℕ → Instruction
unknown = instruction unknown_code 0 15 15 0 1

-- the same instruction with a bad status of its fetch
abbrev pub fetched_as : Status → Instruction → Instruction
fetched_as s i =
    record {
      address = i.address;
      status = s;
      code = i.code;
      function = i.function;
      ra = i.ra;
      rb = i.rb;
      constant = i.constant;
      next = i.next;
      fault = i.fault;
    }

-- and with a reason of its fetch
abbrev pub blamed_for : Option Fault → Instruction → Instruction
blamed_for f i =
    record {
      address = i.address;
      status = i.status;
      code = i.code;
      function = i.function;
      ra = i.ra;
      rb = i.rb;
      constant = i.constant;
      next = i.next;
      fault = f;
    }

-- THE RECORD
-- a fresh one: registers 0, codes ZF=1, start 0
abbrev pub fresh : Pipeline
fresh = pipe_start as_in_01 (replicate 15 0) (coded 4) 0

abbrev pub Change : Type 0
Change = Pipeline → Pipeline

-- with other stages; with other registers and codes; with other books
abbrev stages : ℕ → StageD → StageE → StageM → StageW → Change
stages f d e m w k =
    record {
      settings = k.settings;
      predicted = f;
      d = d;
      e = e;
      m = m;
      w = w;
      registers = k.registers;
      codes = k.codes;
      status = k.status;
      last = k.last;
      retired = k.retired;
      cycles = k.cycles;
      kinds = k.kinds;
      kept = k.kept;
      blame = k.blame;
    }

abbrev values : Registers → Codes → Change
values r c k =
    record {
      settings = k.settings;
      predicted = k.predicted;
      d = k.d;
      e = k.e;
      m = k.m;
      w = k.w;
      registers = r;
      codes = c;
      status = k.status;
      last = k.last;
      retired = k.retired;
      cycles = k.cycles;
      kinds = k.kinds;
      kept = k.kept;
      blame = k.blame;
    }

abbrev books : Status → (last retired cycles : ℕ) → Kinds → Kept → Change
books s a n y t x k =
    record {
      settings = k.settings;
      predicted = k.predicted;
      d = k.d;
      e = k.e;
      m = k.m;
      w = k.w;
      registers = k.registers;
      codes = k.codes;
      status = s;
      last = a;
      retired = n;
      cycles = y;
      kinds = t;
      kept = x;
      blame = k.blame;
    }

-- these settings
abbrev settled : Settings → Change
settled s k =
    record {
      settings = s;
      predicted = k.predicted;
      d = k.d;
      e = k.e;
      m = k.m;
      w = k.w;
      registers = k.registers;
      codes = k.codes;
      status = k.status;
      last = k.last;
      retired = k.retired;
      cycles = k.cycles;
      kinds = k.kinds;
      kept = k.kept;
      blame = k.blame;
    }

-- the rule of that number, without late store data and with it
abbrev pub rule : ℕ → Change
rule n = settled (record { rule = n; late = false; window = no_window })

abbrev pub late : ℕ → Change
late n = settled (record { rule = n; late = true; window = no_window })

-- a code window, the other settings as they are
abbrev pub window : (first end : ℕ) → Change
window first end k = settled (record { rule = k.settings.rule; late = k.settings.late; window = within (first, end) }) k

-- F holds this address; D, E, M and W this instruction, with what it carries there
abbrev pub F : ℕ → Change
F a k = stages a k.d k.e k.m k.w k

abbrev pub D : Instruction → Change
D i k = stages k.predicted (in_d i) k.e k.m k.w k

abbrev pub E : Instruction → (val_a val_b : ℕ) → Change
E i a b k = stages k.predicted k.d (in_e (record { instruction = i; a = a; b = b })) k.m k.w k

abbrev pub M : Instruction → (val_a result : ℕ) → (holds : Bool) → Change
M i a e h k = stages k.predicted k.d k.e (in_m (record { instruction = i; a = a; result = e; holds = h })) k.w k

abbrev pub W : Instruction → (result : ℕ) → (holds : Bool) → (word : ℕ) → Status → Change
W i e h v s k = stages k.predicted k.d k.e k.m (in_w (record { instruction = i; result = e; holds = h; word = v; status = s; patched = false })) k

-- a store in W that wrote into the window
abbrev pub patching_w : Instruction → (result : ℕ) → Change
patching_w i e k =
    stages k.predicted k.d k.e k.m (in_w (record { instruction = i; result = e; holds = true; word = 0; status = aok; patched = true })) k

abbrev pub file : Registers → Change
file r k = values r k.codes k

abbrev pub registers : List (ℕ × ℕ) → Change
registers qs = file (given qs)

abbrev pub codes : ℕ → Change
codes n k = values k.registers (coded n) k

-- status and last address
abbrev pub stopped : Status → ℕ → Change
stopped s a k = books s a k.retired k.cycles k.kinds k.kept k

abbrev pub counts : (retired cycles loaduse mispredict returned : ℕ) → Change
counts n y l m u k = books k.status k.last n y (record { loaduse = l; mispredict = m; returned = u; patched = 0 }) k.kept k

-- the cycles charged behind stores into the window
abbrev pub patches : ℕ → Change
patches n k =
    let t = k.kinds in
    books k.status k.last k.retired k.cycles (record { loaduse = t.loaduse; mispredict = t.mispredict; returned = t.returned; patched = n }) k.kept k

-- the instruction kept for its follower's charge
abbrev pub keeps : Instruction → (holds : Bool) → Change
keeps i h k = books k.status k.last k.retired k.cycles k.kinds (last_kept (record { instruction = i; holds = h; patched = false })) k

-- one that wrote into the window
abbrev pub keeps_patching : Instruction → (holds : Bool) → Change
keeps_patching i h k = books k.status k.last k.retired k.cycles k.kinds (last_kept (record { instruction = i; holds = h; patched = true })) k

-- all changes, the first one last
abbrev pub with : List Change → Pipeline
with [] = fresh
with (f ∷ fs) = f (with fs)

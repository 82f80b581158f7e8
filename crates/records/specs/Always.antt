-- What holds of every record, memory and log: the rules that say "nothing" or "everything else".
use Rattle.std.specs.Prelude.{ℕ, ◌+◌, true, false, List, [], ◌∷◌, ◌++◌, ◌≡◌, refl, eqb, length, take, drop}
use Rattle.std.proofs.Common.{ap}
use Rattle.machine.specs.Types.{is_bad}
use Rattle.machine.specs.Memory.{Memory, size, Registers, inside, load, store, value, written}
use Rattle.clocked.specs.Prediction.{Core, meets}
use Rattle.clocked.specs.Pipeline.{Piped, clock, clock_by, stopped_in}
use Rattle.machine.specs.Runs.{plain_refusal, plain_by, plain_answer, laid}
use Rattle.clocked.specs.PipeRuns.{pipe_refusal, pipe_by, pipe_answer}
use Rattle.records.specs.Names.{Accessed, Machine, Pipeline, in_w}

-- "number, the record as given, nothing changed", by whatever number it is refused
pub plain_unchanged : (logs : List ℕ) (k : Machine) (m : Memory) (budget : ℕ) (log : List ℕ)
    → let n = plain_refusal k.window (size m) k.count budget logs in
    eqb n 0 ≡ false → plain_by logs k m budget log ≡ plain_answer n k m log
unfolding plain_by
plain_unchanged logs k m budget log h = rw h

pub pipe_unchanged : (logs : List ℕ) (k : Pipeline) (m : Memory) (budget : ℕ) (a y : List ℕ)
    → let n = pipe_refusal k (size m) budget logs in
    eqb n 0 ≡ false → pipe_by logs k m budget a y ≡ pipe_answer n k m a y
unfolding pipe_by
pipe_unchanged logs k m budget a y h = rw h

-- "When its status is bad, that clock changes only the counts, logs, status and last address: everything else stays as it stood."
pub record Stays (p q : Piped) (x : Accessed) : Type 0 where
  pub predicted : q.pipeline.predicted ≡ p.pipeline.predicted
  pub d : q.pipeline.d ≡ p.pipeline.d
  pub e : q.pipeline.e ≡ p.pipeline.e
  pub m : q.pipeline.m ≡ p.pipeline.m
  pub w : q.pipeline.w ≡ p.pipeline.w
  pub registers : q.pipeline.registers ≡ p.pipeline.registers
  pub codes : q.pipeline.codes ≡ p.pipeline.codes
  pub kept : q.pipeline.kept ≡ p.pipeline.kept
  pub memory : q.memory ≡ p.memory
  -- and what changes
  pub status : q.pipeline.status ≡ x.status
  pub last : q.pipeline.last ≡ x.instruction.address
  pub retired : q.pipeline.retired ≡ p.pipeline.retired + 1
  pub cycles : q.pipeline.cycles ≡ p.pipeline.cycles + 1
  pub address_log : q.address_log ≡ p.address_log ++ x.instruction.address ∷ []
  pub cycle_log : q.cycle_log ≡ p.cycle_log ++ (p.pipeline.cycles + 1) ∷ []

pub stop_stays : (g : Core) (p : Piped) (x : Accessed) → is_bad p.pipeline.status ≡ false → p.pipeline.w ≡ in_w x → is_bad x.status ≡ true
    → Stays p (clock g p) x
unfolding clock clock_by stopped_in
stop_stays g p x r e b =
    rw (r, e, b)
    (record {
      predicted = refl;
      d = refl;
      e = refl;
      m = refl;
      w = refl;
      registers = refl;
      codes = refl;
      kept = refl;
      memory = refl;
      status = refl;
      last = refl;
      retired = refl;
      cycles = refl;
      address_log = refl;
      cycle_log = refl;
    })

-- "place k-1 takes the k-th retirement of the call, the rest stays."
pub laid_first : (es log : List ℕ) → take (length log) es ≡ take (length es) (laid es log)
unfolding laid
laid_first [] [] = refl
laid_first [] (x ∷ log) = refl
laid_first (e ∷ es) [] = refl
laid_first (e ∷ es) (x ∷ log) = ap (e ∷◌) (laid_first es log)

pub laid_rest : (es log : List ℕ) → drop (length es) (laid es log) ≡ drop (length es) log
unfolding laid
laid_rest [] log = refl
laid_rest (e ∷ es) [] = refl
laid_rest (e ∷ es) (x ∷ log) = laid_rest es log

-- "A load outside memory reads 0; a store outside writes nothing."
pub load_outside : (m : Memory) (a : ℕ) → inside m a ≡ false → load m a ≡ 0
unfolding load
load_outside m a h = rw h

pub store_outside : (m : Memory) (a v : ℕ) → inside m a ≡ false → store m a v ≡ m
unfolding store
store_outside m a v h = rw h

-- "Register 15 as a source reads 0 and matches nothing; as a target it writes nothing."
pub none_reads : (r : Registers) → value r 15 ≡ 0
unfolding value
none_reads r = refl

pub none_matches : (t : ℕ) → meets t 15 ≡ false
unfolding meets
none_matches t = refl

pub none_writes : (r : Registers) (v : ℕ) → written r 15 v ≡ r
unfolding written
none_writes r v = refl

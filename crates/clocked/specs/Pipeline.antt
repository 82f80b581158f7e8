-- The pipelined engine, one clock at a time.
use Rattle.std.specs.Prelude.{ℕ, zero, suc, ◌+◌, Bool, false, cond, ◌&&◌, ◌||◌, List, [], ◌∷◌, ◌++◌}
use Rattle.machine.specs.Types.{is_bad}
use Rattle.clocked.specs.Record.{Option, Settings, Pipeline, Instruction, Decoded, Accessed, Codes, aok, Kinds}
use Rattle.clocked.specs.Record.{StageD, bubble_d, in_d, StageE, bubble_e, in_e, StageM, bubble_m, in_m, StageW, bubble_w, in_w, Kept, none_kept, last_kept}
use Rattle.machine.specs.Memory.{Memory, through, Registers, value}
use Rattle.machine.specs.Table.{is, ret}
use Rattle.machine.specs.Fetch.{fetch, blame_of, no_blame}
use Rattle.machine.specs.Stages.{decode, execute, access, new_codes, new_memory, new_registers, result_target, loaded_target, turned, straight, source_a}
use Rattle.clocked.specs.Prediction.{Core, predicted_next, mispredicted, meets, load_use, takes_late}
use Rattle.clocked.specs.Charges.{no_kinds, counted, retired_of, reason_from}

-- the record, its memory seen through the record's window, and what has been logged of each retirement so far: its address and its cycle
pub record Piped : Type 0 where
  pub pipeline : Pipeline
  pub memory : Memory
  pub address_log : List ℕ
  pub cycle_log : List ℕ

-- "At a fresh start F holds the start address and the rest are bubbles."
unfoldable pub pipe_start : Settings → Registers → Codes → ℕ → Pipeline
pipe_start s r c a =
    record {
      settings = s;
      predicted = a;
      d = bubble_d;
      e = bubble_e;
      m = bubble_m;
      w = bubble_w;
      registers = r;
      codes = c;
      status = aok;
      last = a;
      retired = 0;
      cycles = 0;
      kinds = no_kinds;
      kept = none_kept;
      blame = no_blame;
    }

abbrev pub piped_of : Pipeline → Memory → Piped
piped_of k m = record { pipeline = k; memory = through k.settings.window m; address_log = []; cycle_log = [] }

-- THE WORK OF A STAGE IN A CLOCK
-- what E's instruction is after execution, on the codes as the clock began
unfoldable pub after_e : StageE → Codes → StageM
after_e bubble_e c = bubble_m
after_e (in_e x) c = in_m (execute x c)

-- what M's instruction is after its access: "Memory is read before the clock's write."
unfoldable pub after_m : StageM → Memory → StageW
after_m bubble_m m = bubble_w
after_m (in_m x) m = in_w (access x m)

-- "One core passes a word loaded in M straight to a store in E" (02, #106): valA of x, with w behind M's access
unfoldable pub handed_a : Core → StageW → Decoded → ℕ
handed_a g bubble_w x = x.a
handed_a g (in_w w) x = cond (takes_late g x.instruction && meets (loaded_target w.instruction) (source_a x.instruction)) w.word x.a

unfoldable pub handed : Core → StageW → StageE → StageE
handed g w bubble_e = bubble_e
handed g w (in_e x) = in_e (record { instruction = x.instruction; a = handed_a g w x; b = x.b })

-- what E works on in this clock
unfoldable pub executing : Core → Piped → StageE
executing g p = handed g (after_m p.pipeline.m p.memory) p.pipeline.e

unfoldable pub codes_after : StageE → Codes → Codes
codes_after bubble_e c = c
codes_after (in_e x) c = new_codes x c

unfoldable pub memory_after : StageM → Memory → Memory
memory_after bubble_m m = m
memory_after (in_m x) m = new_memory x m

unfoldable pub registers_after : StageW → Registers → Registers
registers_after bubble_w r = r
registers_after (in_w w) r = new_registers w r

-- SOURCES
-- forwarded past the result alone of an instruction, and past its loaded word and its result: v is what lies behind
unfoldable pub past_result : StageM → ℕ → ℕ → ℕ
past_result bubble_m q v = v
past_result (in_m x) q v = cond (meets (result_target x.instruction x.holds) q) x.result v

unfoldable pub past_both : StageW → ℕ → ℕ → ℕ
past_both bubble_w q v = v
past_both (in_w w) q v = cond (meets (loaded_target w.instruction) q) w.word (cond (meets (result_target w.instruction w.holds) q) w.result v)

-- "Decode takes a source from the first match of: result in E, word loaded in M, result in M, word loaded in W, result in W, register file."
unfoldable pub source_w : Piped → ℕ → ℕ
source_w p q = past_both p.pipeline.w q (value p.pipeline.registers q)

unfoldable pub source_m : Piped → ℕ → ℕ
source_m p q = past_both (after_m p.pipeline.m p.memory) q (source_w p q)

unfoldable pub source : Core → Piped → ℕ → ℕ
source g p q = past_result (after_e (executing g p) p.pipeline.codes) q (source_m p q)

-- SIGNALS
-- "load-use (mrmovq or popq in E whose loaded register is a source in D)"
unfoldable pub waits_behind : Core → StageE → StageD → Bool
waits_behind g bubble_e d = false
waits_behind g (in_e x) bubble_d = false
waits_behind g (in_e x) (in_d j) = load_use g x.instruction j

unfoldable pub waits : Core → Piped → Bool
waits g p = waits_behind g p.pipeline.e p.pipeline.d

-- an executed jump that was guessed wrongly
unfoldable pub wrong : Core → StageM → Bool
wrong g bubble_m = false
wrong g (in_m x) = mispredicted g x.instruction x.holds

-- "misprediction (jXX in E, condition false)"; in the words of 02, #105, a jump "whose outcome differs from the prediction"
unfoldable pub mispredicts : Core → Piped → Bool
mispredicts g p = wrong g (after_e (executing g p) p.pipeline.codes)

-- by where what stands in a stage has its instruction
unfoldable pub ret_in : {A : Type 0} → (A → Instruction) → Option A → Bool
ret_in f bubble_d = false
ret_in f (in_d x) = is ret (f x)

unfoldable pub ret_in_d : StageD → Bool
unfolding ret_in
ret_in_d d = ret_in (λ i. i) d

unfoldable pub ret_in_e : StageE → Bool
unfolding ret_in
ret_in_e e = ret_in (λ x. x.instruction) e

unfoldable pub ret_in_m : StageM → Bool
unfolding ret_in
ret_in_m m = ret_in (λ x. x.instruction) m

-- "ret in D, E or M"
unfoldable pub returns : Piped → Bool
returns p = ret_in_d p.pipeline.d || (ret_in_e p.pipeline.e || ret_in_m p.pipeline.m)

unfoldable pub bad_in_w : StageW → Bool
bad_in_w bubble_w = false
bad_in_w (in_w w) = is_bad w.status

-- "bad status in M, after its access"
unfoldable pub fails : Piped → Bool
fails p = bad_in_w (after_m p.pipeline.m p.memory)

-- "a store that succeeds in M and writes any window byte cancels everything younger" (02, #113)
unfoldable pub patched_in_w : StageW → Bool
patched_in_w bubble_w = false
patched_in_w (in_w w) = w.patched

unfoldable pub cancels : Piped → Bool
cancels p = patched_in_w (after_m p.pipeline.m p.memory)

-- THE FETCH ADDRESS
-- "else if W holds ret, the word it read; else the predicted one"
unfoldable pub returned_to : StageW → ℕ → ℕ
returned_to bubble_w f = f
returned_to (in_w w) f = cond (is ret w.instruction) w.word f

-- "if M holds a jump whose condition was false, that jump's next address"; and "a wrongly taken guess and a wrongly skipped one are both
-- mended by the fetch address when the jump stands in M" (02, #105)
unfoldable pub mended : Core → StageM → ℕ → ℕ
mended g bubble_m f = f
mended g (in_m x) f = cond (mispredicted g x.instruction x.holds) (turned x.instruction x.holds) f

unfoldable pub fetch_address : Core → Piped → ℕ
fetch_address g p = mended g p.pipeline.m (returned_to p.pipeline.w p.pipeline.predicted)

unfoldable pub fetched_now : Core → Piped → Instruction
fetched_now g p = fetch p.memory (fetch_address g p)

-- CONTROLS AT THE END OF A CLOCK
-- "fetch restarts at the instruction that follows the store (for call, its target)" (02, #113)
unfoldable pub restart : StageM → ℕ → ℕ
restart bubble_m f = f
restart (in_m x) f = straight x.instruction

-- A cancelling store "goes before a misprediction, a load-use wait and the hold for a ret in the same clock".
-- F: restarted behind such a store; held for load-use and for ret
unfoldable pub next_f : Core → Piped → ℕ
next_f g p =
    cond (cancels p) (restart p.pipeline.m p.pipeline.predicted)
    (cond (waits g p || returns p) p.pipeline.predicted (predicted_next g (fetched_now g p)))

-- D: a bubble for misprediction; held for load-use; a bubble for ret
unfoldable pub next_d : Core → Piped → StageD
next_d g p = cond (cancels p || mispredicts g p) bubble_d (cond (waits g p) p.pipeline.d (cond (returns p) bubble_d (in_d (fetched_now g p))))

unfoldable pub decoded_d : Core → Piped → StageD → StageE
decoded_d g p bubble_d = bubble_e
decoded_d g p (in_d i) = in_e (decode i (source g p))

-- E: a bubble for misprediction and for load-use
unfoldable pub next_e : Core → Piped → StageE
next_e g p = cond (cancels p || (mispredicts g p || waits g p)) bubble_e (decoded_d g p p.pipeline.d)

-- M: "bad status in M, after its access: bubble into M."
unfoldable pub next_m : Core → Piped → StageM
next_m g p = cond (cancels p || fails p) bubble_m (after_e (executing g p) p.pipeline.codes)

-- "Then, or with bad status in W, OPq in E sets no codes." With bad status in W nothing below is done at all.
-- Of what is cancelled "codes are not set"
unfoldable pub next_codes : Core → Piped → Codes
next_codes g p = cond (cancels p || fails p) p.pipeline.codes (codes_after (executing g p) p.pipeline.codes)

-- RETIREMENT
-- "An instruction retires in the clock in which it stands in W."
unfoldable pub last_after : StageW → ℕ → ℕ
last_after bubble_w a = a
last_after (in_w w) a = w.instruction.address

unfoldable pub retired_after : StageW → ℕ → ℕ
retired_after bubble_w n = n
retired_after (in_w w) n = n + 1

unfoldable pub kinds_after : Core → StageW → Kept → Kinds → Kinds
kinds_after g bubble_w k t = t
kinds_after g (in_w w) k t = counted t (reason_from g k w.instruction)

unfoldable pub kept_after : StageW → Kept → Kept
kept_after bubble_w k = k
kept_after (in_w w) k = last_kept (retired_of w)

-- what a log takes in this clock: x where an instruction retires
unfoldable pub logged : StageW → ℕ → List ℕ
logged bubble_w x = []
logged (in_w w) x = x ∷ []

-- A CLOCK in which no bad status stands in W
unfoldable pub advanced : Core → Piped → Piped
advanced g p =
    let k = p.pipeline in
    record {
      pipeline =
          record {
            settings = k.settings;
            predicted = next_f g p;
            d = next_d g p;
            e = next_e g p;
            m = next_m g p;
            w = after_m k.m p.memory;
            registers = registers_after k.w k.registers;
            codes = next_codes g p;
            status = aok;
            last = last_after k.w k.last;
            retired = retired_after k.w k.retired;
            cycles = k.cycles + 1;
            kinds = kinds_after g k.w k.kept k.kinds;
            kept = kept_after k.w k.kept;
            blame = k.blame;
          };
      memory = memory_after k.m p.memory;
      address_log = p.address_log ++ logged k.w (last_after k.w k.last);
      cycle_log = p.cycle_log ++ logged k.w (k.cycles + 1);
    }

-- "When its status is bad, that clock changes only the counts, logs, status and last address: everything else stays as it stood." And
-- "Both engines carry the reason to the stopping answer" (02, #107)
unfoldable pub stopped_in : Core → Piped → Accessed → Piped
stopped_in g p w =
    let k = p.pipeline in
    record {
      pipeline =
          record {
            settings = k.settings;
            predicted = k.predicted;
            d = k.d;
            e = k.e;
            m = k.m;
            w = k.w;
            registers = k.registers;
            codes = k.codes;
            status = w.status;
            last = w.instruction.address;
            retired = k.retired + 1;
            cycles = k.cycles + 1;
            kinds = counted k.kinds (reason_from g k.kept w.instruction);
            kept = k.kept;
            blame = blame_of p.memory w.instruction;
          };
      memory = p.memory;
      address_log = p.address_log ++ w.instruction.address ∷ [];
      cycle_log = p.cycle_log ++ (k.cycles + 1) ∷ [];
    }

unfoldable pub clock_by : Core → Piped → StageW → Piped
clock_by g p bubble_w = advanced g p
clock_by g p (in_w w) = cond (is_bad w.status) (stopped_in g p w) (advanced g p)

-- "A step or clock on a stopped machine changes nothing, counts nothing and logs nothing."
unfoldable pub clock : Core → Piped → Piped
clock g p = cond (is_bad p.pipeline.status) p (clock_by g p p.pipeline.w)

-- the state after n clocks: "A run ends at a stop or a spent budget", since from a stop on a clock changes nothing
unfoldable pub clocks : Core → Piped → ℕ → Piped
clocks g p zero = p
clocks g p (suc n) = clock g (clocks g p n)

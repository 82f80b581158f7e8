-- Demand 3 is not vacuous, its premise is tight, and memory and codes run ahead in mid-run: computed.
use Rattle.std.specs.Prelude.{ℕ, suc, ◌≤◌, ◌<◌, Bool, true, false, List, ◌∷◌, ◌++◌, ◌≡◌, refl, length, get_or, replicate}
use Rattle.std.proofs.Common.{true≢false, ap, sym, ◌∙◌, arith}
use Rattle.account.specs.Names.{Status, aok, hlt, adr, ins, Codes, Kinds}
use Rattle.machine.specs.Types.{status_number, is_set}
use Rattle.machine.specs.Memory.{Memory, lent, Registers}
use Rattle.machine.specs.Table.{unknown_byte}
use Rattle.machine.specs.Plain.{Plain, is_stopped, steps}
use Rattle.clocked.specs.Prediction.{Core, core01, as_in_01}
use Rattle.clocked.specs.Charges.{due}
use Rattle.clocked.specs.Pipeline.{Piped, clocks}
use Rattle.clocked.specs.Computing.{computing}
use Rattle.account.specs.Statement.{Start, plain_from, piped_from, Agrees, Demand3}
use Rattle.account.specs.Decide.{UntouchedWithin, untouched, touches, clear, all}
use Rattle.account.proofs.Decide.{untouched_sound}

-- registers 0, codes ZF=1, start 0
from : List ℕ → Start
from b = record { settings = as_in_01; registers = replicate 15 0; codes = record { zf = true; sf = false; of = false }; address = 0; memory = lent b }

-- what is computed: is the premise met by the first k instructions, with w in place of three; when is the k-th due; the plain engine
-- after k instructions; and the pipeline after c clocks
pub record Figures : Type 0 where
  pub premise : Bool
  pub due_in : ℕ
  pub plain_status : Status
  pub plain_last : ℕ
  pub status : Status
  pub last : ℕ
  pub retired : ℕ
  pub cycles : ℕ
  pub kinds : Kinds

pub figures : ℕ → List ℕ → (k c : ℕ) → Figures
unfolding from computing plain_from piped_from untouched touches clear all
figures w b k c =
    let s = plain_from (from b) in
    let p = (clocks core01 (piped_from (from b)) c).pipeline in
    record {
      premise = untouched w s k;
      due_in = due core01 s k;
      plain_status = (steps s k).machine.status;
      plain_last = (steps s k).machine.last;
      status = p.status;
      last = p.last;
      retired = p.retired;
      cycles = p.cycles;
      kinds = p.kinds;
    }

-- NOT VACUOUS
-- 0: irmovq $64, %rsp; 10: call 20; 19: the instruction that stops; 20: mrmovq (%rsp), %rax; 30: addq %rax, %rax; 32: je 0; 41: ret
pub program : ℕ → List ℕ
program final =
    0x30 ∷ 0xf4 ∷ 64 ∷ replicate 7 0
    ++ (0x80 ∷ 20 ∷ replicate 7 0
    ++ (final ∷ 0x50 ∷ 0x04 ∷ replicate 8 0
    ++ (0x60 ∷ 0x00 ∷ 0x73 ∷ replicate 8 0
    ++ (0x90 ∷ replicate 22 0))))

-- it stops with x at address 19 as the seventh instruction, in cycle 17, and has been charged for each reason
pub reached : Status → Figures
reached x =
    record {
      premise = true;
      due_in = 17;
      plain_status = x;
      plain_last = 19;
      status = x;
      last = 19;
      retired = 7;
      cycles = 17;
      kinds = record { loaduse = 1; mispredict = 2; returned = 3; patched = 0 };
    }

-- the premise is met, every kind of charge is made, and each stop is reached: by a halt, a ret whose word is outside, and a code without functions
pub each_stop : (figures 3 (program 0x00) 7 17 ≡ reached hlt) × (figures 3 (program 0x90) 7 17 ≡ reached adr)
    × (figures 3 (program unknown_byte) 7 17 ≡ reached ins)
unfolding figures program reached
each_stop = (refl, refl, refl)

-- TIGHT
-- rmmovq %rax, 12(%rcx), and nops: the store writes zeros, halts, at 12 to 19
pub patching : List ℕ
patching = 0x40 ∷ 0x01 ∷ 0x0c ∷ replicate 7 0 ++ replicate 10 0x10

pub patched : (premise : Bool) → Status → (last retired cycles : ℕ) → Figures
patched b x a n c =
    record {
      premise = b;
      due_in = 8;
      plain_status = hlt;
      plain_last = 12;
      status = x;
      last = a;
      retired = n;
      cycles = c;
      kinds = record { loaduse = 0; mispredict = 0; returned = 0; patched = 0 };
    }

-- no store writes a byte of the next two, one writes a byte of the next three; the plain engine stops at 12, the pipeline goes on and stops at 13
pub two_differ : (figures 2 patching 4 8 ≡ patched true aok 12 4 8) × (figures 3 patching 4 9 ≡ patched false hlt 13 5 9)
unfolding figures patching patched
two_differ = (refl, refl)

-- demand 3 with w instructions in place of three, reaching as far as instruction reach k is due, and with R said after every clock
abbrev pub Demand3Of : ℕ → (ℕ → ℕ) → (Core → Plain → Piped → (c n : ℕ) → Type 0) → Type 0
Demand3Of w reach R =
    (g : Core) (t : Start) → length t.registers ≡ 15 → (k : ℕ) → (is_set (plain_from t).memory.window ≡ false → UntouchedWithin w (plain_from t) (suc k))
    → (c : ℕ) → c ≤ due g (plain_from t) (reach k) → (n : ℕ) × R g (plain_from t) (clocks g (piped_from t) c) c n

-- demand 3 itself
pub as_stated : (Demand3 → Demand3Of 3 suc Agrees) × (Demand3Of 3 suc Agrees → Demand3)
as_stated = (λ d. d, λ d. d)

-- the pipeline after 8 clocks has retired 4 and runs, where the plain engine has stopped
goes_on_lem : (n : ℕ) × Agrees core01 (plain_from (from patching)) (clocks core01 (piped_from (from patching)) 8) 8 n → ⊥
unfolding figures patching
goes_on_lem x =
    let four : 4 ≡ x.0 = x.1.retired in
    let stopped = ap (λ (n : ℕ). (steps (plain_from (from patching)) n).machine.status) (sym four) in
    let clash : status_number aok ≡ status_number hlt = ap status_number (x.1.status ∙ stopped) in
    omega (arith, clash)

-- with two it is false
pub two_are_too_few : Demand3Of 2 suc Agrees → ⊥
unfolding figures patching
two_are_too_few d = goes_on_lem (d core01 (from patching) refl 3 (λ _. untouched_sound 2 (plain_from (from patching)) 4 refl) 8 (omega arith))

-- THE EDITS OF THE STATEMENT (must-fail/), each false and not only unproved
-- one_instruction_too_far: the store meets the premise as far as instruction 3, and instruction 4 is the one written into
pub one_too_far : Demand3Of 3 (λ k. suc (suc k)) Agrees → ⊥
unfolding figures patching
one_too_far d = goes_on_lem (d core01 (from patching) refl 2 (λ _. untouched_sound 3 (plain_from (from patching)) 3 refl) 8 (omega arith))

-- registers_ahead, by the fields that it has: at the start, before irmovq $64, %rsp
pub registers_ahead : Demand3Of 3 suc (λ g s p c n. (p.pipeline.retired ≡ n) × (p.pipeline.registers ≡ (steps s (suc n)).machine.registers)) → ⊥
unfolding figures program
registers_ahead d =
    let s = plain_from (from (program 0)) in
    let x = d core01 (from (program 0)) refl 6 (λ _. untouched_sound 3 s 7 refl) 0 (omega arith) in
    let none : 0 ≡ x.0 = x.1.0 in
    let clash : ◌≡◌ {A = ℕ} 0 64 = ap (λ (r : Registers). get_or r 4 0) (x.1.1 ∙ ap (λ (n : ℕ). (steps s (suc n)).machine.registers) (sym none)) in
    omega arith

-- retired_a_cycle_early: after 4 clocks none has retired, and the first is due in cycle 5
pub a_cycle_early : Demand3Of 3 suc (λ g s p c n. (p.pipeline.retired ≡ n) × (is_stopped (steps s n) ≡ false → suc c < due g s (suc n))) → ⊥
unfolding figures program
a_cycle_early d =
    let s = plain_from (from (program 0)) in
    let x = d core01 (from (program 0)) refl 6 (λ _. untouched_sound 3 s 7 refl) 4 (omega arith) in
    let none : 0 ≡ x.0 = x.1.0 in
    let late : suc 4 < due core01 s (suc 0) = rw (sym none) at x.1.1 refl in
    omega arith

-- MEMORY AND CODES IN MID-RUN
-- after 5 clocks the call has stored 19 at 56, and has not retired
pub memory_runs_ahead : Demand3Of 3 suc (λ g s p c n. Agrees g s p c n × (p.memory ≡ (steps s n).memory)) → ⊥
unfolding figures program
memory_runs_ahead d =
    let s = plain_from (from (program 0)) in
    let x = d core01 (from (program 0)) refl 6 (λ _. untouched_sound 3 s 7 refl) 5 (omega arith) in
    let one : 1 ≡ x.0 = x.1.0.retired in
    let clash : ◌≡◌ {A = ℕ} 19 0 = ap (λ (m : Memory). get_or m.bytes 56 0) (x.1.1 ∙ ap (λ (n : ℕ). (steps s n).memory) (sym one)) in
    omega arith

-- after 7 the addq has cleared ZF, and has not retired
pub codes_run_ahead : Demand3Of 3 suc (λ g s p c n. Agrees g s p c n × (p.pipeline.codes ≡ (steps s n).machine.codes)) → ⊥
unfolding figures program
codes_run_ahead d =
    let s = plain_from (from (program 0)) in
    let x = d core01 (from (program 0)) refl 6 (λ _. untouched_sound 3 s 7 refl) 7 (omega arith) in
    let three : 3 ≡ x.0 = x.1.0.retired in
    true≢false (sym (ap (λ (c : Codes). c.zf) (x.1.1 ∙ ap (λ (n : ℕ). (steps s n).machine.codes) (sym three))))

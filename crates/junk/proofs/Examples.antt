-- The claim is not vacuous and is tight, by computing: a byte fetched on a wrong path or behind the stop only may differ, one that is read or fetched
-- may not, and without demand 3's premise, where no window is set, it is false.
use Rattle.std.specs.Prelude.{ℕ, Bool, true, false, List, [], ◌∷◌, ◌++◌, ◌≡◌, refl, length, get_or, replicate}
use Rattle.std.proofs.Common.{true≢false, ap, arith}
use Rattle.machine.specs.declared.Status.{Status}
use Rattle.machine.specs.declared.Status.TheVariants.{Hlt as hlt, Adr as adr}
use Rattle.machine.specs.Types.{Window}
use Rattle.machine.specs.Types.{no_window, within}
use Rattle.clocked.specs.Record.{StageD}
use Rattle.clocked.specs.Record.{bubble_d, in_d}
use Rattle.machine.specs.Types.{status_number}
use Rattle.machine.specs.Memory.{Memory, lent, Registers}
use Rattle.machine.specs.Plain.{Plain, is_stopped, steps}
use Rattle.clocked.specs.Prediction.{Core, core01}
use Rattle.clocked.specs.Pipeline.{clocks}
use Rattle.clocked.specs.Premise.{Premise}
use Rattle.clocked.specs.Computing.{computing}
use Rattle.account.specs.Statement.{Start, plain_from, piped_from}
use Rattle.account.specs.Decide.{untouched, touches, clear, all}
use Rattle.account.proofs.Decide.{untouched_sound}
use Rattle.junk.specs.Statement.{looked, looks_at, reads_byte, Never, NoPart, NoPartAsIn01, DifferOnlyAt, imaged, SameStep, SameClock, BytesThatPlayNoPart}
use Rattle.junk.specs.Decide.{never, no_part, differs}
use Rattle.junk.proofs.Decide.{never_sound, part_sound, differs_sound}
use Rattle.junk.proofs.Theorem.{no_part_lem}

-- a start in this window: codes ZF=1, start 0; rax as given, the other registers 0
pub seen_in : Window → ℕ → List ℕ → Start
seen_in w rax b =
    record {
      settings = record { rule = 0; late = false; window = w };
      registers = rax ∷ replicate 14 0;
      codes = record { zf = true; sf = false; of = false };
      address = 0;
      memory = lent b;
    }

-- and without a window
pub from : ℕ → List ℕ → Start
from = seen_in no_window

-- what is computed of a start: do no stores of the first k instructions write what demand 3 asks them not to, and do the images differ only where nothing
-- is looked at; the plain engine after k instructions; the pipeline after c clocks
pub record Figures : Type 0 where
  pub premise : Bool
  pub no_part : Bool
  pub plain_status : Status
  pub status : Status
  pub last : ℕ
  pub retired : ℕ
  pub cycles : ℕ

pub figures : Start → List ℕ → (k c : ℕ) → Figures
unfolding seen_in from computing plain_from piped_from untouched touches clear all looked looks_at reads_byte never no_part differs
figures t b k c =
    let s = plain_from t in
    let p = (clocks core01 (piped_from t) c).pipeline in
    record {
      premise = untouched 3 s k;
      no_part = differs (no_part s k) t.memory (lent b);
      plain_status = (steps s k).machine.status;
      status = p.status;
      last = p.last;
      retired = p.retired;
      cycles = p.cycles;
    }

-- A WRONG PATH
-- 0: jne 16, not taken; 9: halt; 16: any byte
pub guessed : ℕ → List ℕ
guessed b = 0x74 ∷ 16 ∷ replicate 14 0 ++ b ∷ replicate 7 0

-- all that is asked is met, and it stops by the halt at 9 as the second instruction, in cycle 8
pub met : Figures
met = record { premise = true; no_part = true; plain_status = hlt; status = hlt; last = 9; retired = 2; cycles = 8 }

-- a nop or a halt at 16, and the other in the second image
pub wrong_path : (figures (from 0 (guessed 0x10)) (guessed 0x00) 2 8 ≡ met) × (figures (from 0 (guessed 0x00)) (guessed 0x10) 2 8 ≡ met)
unfolding figures guessed met
wrong_path = (refl, refl)

-- so the theorem speaks of them
pub wrong_path_same : (c : ℕ) → SameClock (lent (guessed 0x10)) (lent (guessed 0x00)) (clocks core01 (piped_from (from 0 (guessed 0x10))) c) (clocks core01 (piped_from (from 0 (guessed 0x00))) c)
unfolding figures guessed
wrong_path_same =
    let s = plain_from (from 0 (guessed 0x10)) in
    let d = differs_sound (no_part s 2) (NoPart s) (lent (guessed 0x10)) (lent (guessed 0x00)) refl (part_sound s 2 refl) refl in
    (no_part_lem core01 (from 0 (guessed 0x10)) (lent (guessed 0x00)) refl d 2 refl (λ _. untouched_sound 3 s 2 refl)).1

-- and no more can be said: after two clocks the stages D differ, a nop in one and a halt in the other
in_d_status : StageD → ℕ
in_d_status bubble_d = 0
in_d_status (in_d i) = status_number i.status

pub stages_differ : (clocks core01 (piped_from (from 0 (guessed 0x10))) 2).pipeline.d ≡ (clocks core01 (piped_from (from 0 (guessed 0x00))) 2).pipeline.d → ⊥
unfolding figures guessed in_d_status
stages_differ e =
    let clash : ◌≡◌ {A = ℕ} 1 2 = ap in_d_status e in
    omega arith

-- BEHIND THE STOP
-- 0: mrmovq 99(%rcx), %rax, outside memory; 10: any byte, which is in D when the load fails
pub stopping : ℕ → List ℕ
stopping b = 0x50 ∷ 0x01 ∷ 99 ∷ replicate 7 0 ++ b ∷ []

pub failed : Figures
failed = record { premise = true; no_part = true; plain_status = adr; status = adr; last = 0; retired = 1; cycles = 5 }

pub behind_the_stop : (figures (from 0 (stopping 0x10)) (stopping 0x00) 1 5 ≡ failed) × (figures (from 0 (stopping 0x00)) (stopping 0x10) 1 5 ≡ failed)
unfolding figures stopping failed
behind_the_stop = (refl, refl)

-- A BYTE THAT IS OVERWRITTEN
-- 0: rmmovq %rax, 16(%rcx); 10: halt; 16: a word that may differ, and is the same afterwards
pub overwriting : ℕ → List ℕ
overwriting b = 0x40 ∷ 0x01 ∷ 16 ∷ replicate 13 0 ++ b ∷ replicate 7 0

pub overwritten : (differs (no_part (plain_from (from 5 (overwriting 1))) 2) (lent (overwriting 1)) (lent (overwriting 2)) ≡ true)
    × ((steps (plain_from (from 5 (overwriting 1))) 2).memory ≡ (steps (plain_from (from 5 (overwriting 2))) 2).memory)
unfolding figures overwriting
overwritten = (refl, refl)

-- TWO READINGS
-- `64`, a bad function: fetch does not look at the byte behind it, which in document 01's words is one of the instruction's bytes
pub bad_function : List ℕ
bad_function = 0x64 ∷ 0 ∷ []

pub behind_bad_function : NoPart (plain_from (from 0 bad_function)) 1 × (NoPartAsIn01 (plain_from (from 0 bad_function)) 1 → ⊥)
unfolding figures bad_function
behind_bad_function = (part_sound (plain_from (from 0 bad_function)) 1 refl 1 refl, λ h. true≢false (h.0 0 refl))

-- `30 ff`, an irmovq to register 15: its constant is not looked at, its register byte is
pub naming : ℕ → List ℕ
naming b = 0x30 ∷ b ∷ replicate 8 0

pub behind_bad_register : NoPart (plain_from (from 0 (naming 0xff))) 2 × (NoPart (plain_from (from 0 (naming 0xff))) 1 → ⊥)
unfolding figures naming
behind_bad_register = (part_sound (plain_from (from 0 (naming 0xff))) 1 refl 2 refl, λ h. true≢false (h.0 0 refl))

-- `30` at the end, an irmovq without its later bytes: the first decides, and the one that is there is not looked at
pub cut_off : List ℕ
cut_off = 0x30 ∷ 0xff ∷ []

pub behind_cut_off : NoPart (plain_from (from 0 cut_off)) 1 × (NoPart (plain_from (from 0 cut_off)) 0 → ⊥)
unfolding figures cut_off
behind_cut_off = (part_sound (plain_from (from 0 cut_off)) 1 refl 1 refl, λ h. true≢false (h.0 0 refl))

-- A WINDOW
-- 0: nop; 1: any byte, outside a window that ends there: fetch looks at none, and stops with ADR
pub framed : ℕ → List ℕ
framed b = 0x10 ∷ b ∷ []

pub outside_the_window : NoPart (plain_from (seen_in (within (0, 1)) 0 (framed 0x00))) 1
    × (figures (seen_in (within (0, 1)) 0 (framed 0x00)) (framed 0x10) 2 6 ≡ record { premise = true; no_part = true; plain_status = adr; status = adr; last = 1; retired = 2; cycles = 6 })
unfolding figures framed
outside_the_window = (part_sound (plain_from (seen_in (within (0, 1)) 0 (framed 0x00))) 2 refl 1 refl, refl)

-- TIGHT
-- the claim with another part P, and another premise Q
abbrev pub Claimed : (P Q : Plain → ℕ → Type 0) → Type 0
Claimed P Q =
    (g : Core) (t : Start) (m' : Memory) → length t.registers ≡ 15 → DifferOnlyAt (P (plain_from t)) t.memory m'
    → (budget : ℕ) → is_stopped (steps (plain_from t) budget) ≡ true → Q (plain_from t) budget
    → ((n : ℕ) → SameStep t.memory m' (steps (plain_from t) n) (steps (plain_from (imaged t m')) n))
    × ((c : ℕ) → SameClock t.memory m' (clocks g (piped_from t) c) (clocks g (piped_from (imaged t m')) c))

pub as_stated : (P : Plain → ℕ → Type 0) → (BytesThatPlayNoPart P → Claimed P Premise) × (Claimed P Premise → BytesThatPlayNoPart P)
as_stated P = (λ h. h, λ h. h)

-- a byte that is read may not differ: 0: mrmovq 16(%rcx), %rax; 10: halt; 16: the word
pub reading : ℕ → List ℕ
reading b = 0x50 ∷ 0x01 ∷ 16 ∷ replicate 13 0 ++ b ∷ replicate 7 0

pub not_fetched_is_too_little : Claimed (Never looks_at) Premise → ⊥
unfolding figures reading
not_fetched_is_too_little d =
    let s = plain_from (from 0 (reading 0)) in
    let e = differs_sound (never looks_at s 2) (Never looks_at s) (lent (reading 0)) (lent (reading 1)) refl (never_sound s 2 refl looks_at) refl in
    let x = d core01 (from 0 (reading 0)) (lent (reading 1)) refl e 2 refl (λ _. untouched_sound 3 s 2 refl) in
    let clash : ◌≡◌ {A = ℕ} 0 1 = ap (λ k. get_or k.registers 0 0) (x.0 2).machine in
    omega arith

-- nor may one that is fetched: a halt, and a nop
pub not_read_is_too_little : Claimed (Never reads_byte) Premise → ⊥
unfolding figures
not_read_is_too_little d =
    let s = plain_from (from 0 (0x00 ∷ [])) in
    let e = differs_sound (never reads_byte s 1) (Never reads_byte s) (lent (0x00 ∷ [])) (lent (0x10 ∷ [])) refl (never_sound s 1 refl reads_byte) refl in
    let x = d core01 (from 0 (0x00 ∷ [])) (lent (0x10 ∷ [])) refl e 1 refl (λ _. untouched_sound 3 s 1 refl) in
    let clash : ◌≡◌ {A = ℕ} 2 1 = ap (λ k. status_number k.status) (x.0 1).machine in
    omega arith

-- without the premise the pipeline may come to where the plain engine does not. 0: rmmovq %rax, 11(%rcx), which makes of the jump behind it
-- one to 19; 10: jmp 24; 19: halt; 24: any byte, and halts
pub patching : ℕ → List ℕ
patching b = 0x40 ∷ 0x01 ∷ 11 ∷ replicate 7 0 ++ (0x70 ∷ 24 ∷ replicate 12 0 ++ b ∷ replicate 7 0)

pub the_premise_is_needed : Claimed NoPart (λ s K. Unit) → ⊥
unfolding figures patching
the_premise_is_needed d =
    let s = plain_from (from 19 (patching 0x10)) in
    let e = differs_sound (no_part s 3) (NoPart s) (lent (patching 0x10)) (lent (patching 0x00)) refl (part_sound s 3 refl) refl in
    let x = d core01 (from 19 (patching 0x10)) (lent (patching 0x00)) refl e 3 refl tt in
    let clash : ◌≡◌ {A = ℕ} 4 3 = (x.1 8).pipeline.retired in
    omega arith

-- with a window set it is not: of the same program the theorem speaks
pub patched_same : (c : ℕ)
    → let t = seen_in (within (0, 32)) 19 in
    SameClock (lent (patching 0x10)) (lent (patching 0x00)) (clocks core01 (piped_from (t (patching 0x10))) c) (clocks core01 (piped_from (t (patching 0x00))) c)
unfolding figures patching
patched_same =
    let t = seen_in (within (0, 32)) 19 (patching 0x10) in
    let s = plain_from t in
    let d = differs_sound (no_part s 3) (NoPart s) (lent (patching 0x10)) (lent (patching 0x00)) refl (part_sound s 3 refl) refl in
    (no_part_lem core01 t (lent (patching 0x00)) refl d 3 refl (λ o. absurd (true≢false o))).1

-- THE EDITS OF THE STATEMENT (must-fail/), each false and not only unproved: by two images that differ only where it lets them
-- no_premise is `the_premise_is_needed`. memories_equal: the byte at 16 still differs
pub memories_differ : (steps (plain_from (from 0 (guessed 0x10))) 2).memory ≡ (steps (plain_from (from 0 (guessed 0x00))) 2).memory → ⊥
unfolding figures guessed
memories_differ e =
    let clash : ◌≡◌ {A = ℕ} 16 0 = ap (λ (m : Memory). get_or m.bytes 16 0) e in
    omega arith

-- predicted_too: behind the nop 17, at the halt 16
pub predictions_differ : (clocks core01 (piped_from (from 0 (guessed 0x10))) 2).pipeline.predicted ≡ (clocks core01 (piped_from (from 0 (guessed 0x00))) 2).pipeline.predicted → ⊥
unfolding figures guessed
predictions_differ e =
    let clash : ◌≡◌ {A = ℕ} 17 16 = e in
    omega arith

-- register_byte_unseen: register 15 stops it, register 0 does not
pub register_byte_decides : is_stopped (steps (plain_from (from 0 (naming 0xff))) 1) ≡ is_stopped (steps (plain_from (from 0 (naming 0xf0))) 1) → ⊥
unfolding figures naming
register_byte_decides e = true≢false e

-- seven_bytes_read: the eighth byte of the word that is loaded from 16
pub highest : ℕ → List ℕ
highest b = 0x50 ∷ 0x01 ∷ 16 ∷ replicate 20 0 ++ b ∷ []

pub eighth_byte_read : (steps (plain_from (from 0 (highest 0))) 1).machine.registers ≡ (steps (plain_from (from 0 (highest 1))) 1).machine.registers → ⊥
unfolding figures highest
eighth_byte_read e =
    let clash : ◌≡◌ {A = ℕ} 0 0x0100000000000000 = ap (λ (r : Registers). get_or r 0 0) e in
    omega arith

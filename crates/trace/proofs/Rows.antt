-- Traces and their verdicts, computed of the definitions: targets, charges, both kinds, the stop, and a window.
use Rattle.std.specs.Prelude.{ℕ, true, false, List, [], ◌∷◌, ◌++◌, ◌≡◌, refl, replicate}
use Prim.Native.String.{String}
use Rattle.machine.specs.Types.{Window}
use Rattle.machine.specs.Types.{no_window, within}
use Rattle.machine.specs.Memory.{lent}
use Rattle.clocked.specs.Prediction.{core_of}
use Rattle.clocked.specs.Computing.{computing}
use Rattle.account.specs.Statement.{Start, plain_from, piped_from}
use Rattle.account.specs.Decide.{touches, clear, all}
use Rattle.text.specs.Bytes.{bytes}
use Rattle.text.specs.Decimal.{digits, decimal}
use Rattle.report_lines.specs.Lines.{line}
use Rattle.register_lines.specs.Registers.{register_names, register_name}
use Rattle.trace.specs.Line.{target_of, target_text, trace_line}
use Rattle.trace.specs.Text.{plain_line, line_in, line_now, pipe_text}
use Rattle.trace.specs.Verdict.{written_into, kind_number, begins, judged, verdict}

-- registers 0, codes ZF=1, start 0, rule 0, store data not late
from : Window → List ℕ → Start
from w image =
    record {
      settings = record { rule = 0; late = false; window = w };
      registers = replicate 15 0;
      codes = record { zf = true; sf = false; of = false };
      address = 0;
      memory = lent image;
    }

-- the verdict on a trace, as its three numbers
pub judged_as : Window → List ℕ → String → List ℕ
unfolding from computing plain_from touches clear all bytes digits decimal line register_names register_name target_of target_text trace_line plain_line written_into kind_number begins judged verdict
judged_as w image t =
    let v = verdict (core_of (from w image).settings) (plain_from (from w image)) (bytes t) in
    v.line ∷ kind_number v.kind ∷ v.right ∷ []

-- the trace that the pipeline writes in so many clocks
pub trace_of : Window → List ℕ → ℕ → List ℕ
unfolding from computing piped_from bytes digits decimal line register_names register_name target_of target_text trace_line line_in line_now pipe_text
trace_of w image c = pipe_text (core_of (from w image).settings) (piped_from (from w image)) c

-- irmovq $5, %rax; halt
pub five : List ℕ
five = 0x30 ∷ 0xf0 ∷ 5 ∷ replicate 7 0 ++ 0 ∷ []

pub right_lines : (judged_as no_window five "1\t0\t5\trax\t5\n2\t10\t6\t-\t0\n" ≡ 0 ∷ 0 ∷ 2 ∷ []) × (judged_as no_window five "1\t0\t5\trax\t5\n" ≡ 0 ∷ 0 ∷ 1 ∷ [])
    × (judged_as no_window five "" ≡ 0 ∷ 0 ∷ 0 ∷ [])
unfolding judged_as five
right_lines = (refl, refl, refl)

-- another cycle, a leading zero, no line feed, a line behind the stop
pub wrong_lines : (judged_as no_window five "1\t0\t6\trax\t5\n" ≡ 1 ∷ 1 ∷ 0 ∷ []) × (judged_as no_window five "1\t0\t5\trax\t05\n" ≡ 1 ∷ 1 ∷ 0 ∷ [])
    × (judged_as no_window five "1\t0\t5\trax\t5\n2\t10\t6\t-\t0" ≡ 2 ∷ 1 ∷ 1 ∷ [])
    × (judged_as no_window five "1\t0\t5\trax\t5\n2\t10\t6\t-\t0\n3\t10\t7\t-\t0\n" ≡ 3 ∷ 1 ∷ 2 ∷ [])
unfolding judged_as five
wrong_lines = (refl, refl, refl, refl)

-- and what the pipeline writes
pub written_lines : trace_of no_window five 9 ≡ bytes "1\t0\t5\trax\t5\n2\t10\t6\t-\t0\n"
unfolding trace_of five bytes
written_lines = refl

-- rmmovq %rax, 12(%rcx), and nops: the store writes zeros, halts, at 12 to 19, so the fourth instruction is written into, whatever its line says; with a window
-- over all each line is right, and the second instruction is charged 3
pub patching : List ℕ
patching = 0x40 ∷ 0x01 ∷ 0x0c ∷ replicate 7 0 ++ replicate 10 0x10

pub kinds : (judged_as no_window patching "1\t0\t5\t-\t0\n2\t10\t6\t-\t0\n3\t11\t7\t-\t0\n4\t12\t8\t-\t0\n" ≡ 4 ∷ 2 ∷ 3 ∷ [])
    × (judged_as no_window patching "1\t0\t5\t-\t0\n2\t10\t6\t-\t0\n3\t11\t7\t-\t0\n?" ≡ 4 ∷ 2 ∷ 3 ∷ [])
    × (judged_as (within (0, 20)) patching "1\t0\t5\t-\t0\n2\t10\t9\t-\t0\n3\t11\t10\t-\t0\n4\t12\t11\t-\t0\n" ≡ 0 ∷ 0 ∷ 4 ∷ [])
unfolding judged_as patching
kinds = (refl, refl, refl)

-- irmovq $40, %rsp; pushq %rsp; popq %rbx; call 24; at 23 halt; at 24 ret: rsp is the target of pushq, call and ret, rA that of popq, and the charge behind
-- ret is 3
pub stacked : List ℕ
stacked = 0x30 ∷ 0xf4 ∷ 40 ∷ replicate 7 0 ++ 0xa0 ∷ 0x4f ∷ 0xb0 ∷ 0x3f ∷ 0x80 ∷ 24 ∷ replicate 7 0 ++ 0 ∷ 0x90 ∷ replicate 23 0

-- cmovne %rax, %rcx, which is false; halt
pub unmoved : List ℕ
unmoved = 0x24 ∷ 0x01 ∷ 0 ∷ []

pub targets : (judged_as no_window stacked "1\t0\t5\trsp\t40\n2\t10\t6\trsp\t32\n3\t12\t7\trbx\t40\n4\t14\t8\trsp\t32\n5\t24\t9\trsp\t40\n6\t23\t13\t-\t0\n"
    ≡ 0 ∷ 0 ∷ 6 ∷ [])
    × (judged_as no_window unmoved "1\t0\t5\t-\t0\n2\t2\t6\t-\t0\n" ≡ 0 ∷ 0 ∷ 2 ∷ [])
unfolding judged_as stacked unmoved
targets = (refl, refl)

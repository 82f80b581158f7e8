-- The program: its promises, what it writes for some images, and two wrong reports.
use Rattle.std.specs.Prelude.{◌≡◌, refl, List, [], ◌∷◌, ◌++◌, ℕ, zero, suc, ◌+◌, drop, replicate}
use Rattle.std.proofs.Common.{sym, ◌∙◌}
use Rattle.clocked.specs.PipeRuns.{PipeAnswer}
use Rattle.text.specs.Bytes.{bytes}
use Rattle.text.specs.Decimal.{digits, decimal}
use Rattle.text.specs.Put.{written}
use Rattle.report_lines.specs.Lines.{line, status_text, status_line, count_lines, kind_lines}
use Rattle.register_lines.specs.Registers.{register_names, register_name, register_line, register_lines}
use Rattle.report.specs.Report.{end_lines, report, image_refused, image_start, image_run, reported, replayed}
use Rattle.cases.specs.Names.{Pipeline}
use Rattle.cases.specs.Computing.{computing}
use Rattle.cases.specs.Promises.{Operation}
use Rattle.cases.specs.Single.{OneAnswer}
use Rattle.cases.specs.Wrong.{FallsFoul, differs}

-- report::report_image: the image and the buffer as lent; how many bytes are handed over, the buffer and the image afterwards
abbrev pub report_image : Operation
report_image = record { Given = List ℕ × List ℕ; Answer = ℕ × List ℕ × List ℕ; promised = λ x. replayed x.0 x.1 }

-- report::run_image: the image as lent; the answer of its run, with the image afterwards
abbrev pub image_run_lem : Operation
image_run_lem = record { Given = List ℕ; Answer = PipeAnswer; promised = image_run }

-- report::write_report: an answer's number and record, and the buffer as lent; how many bytes are handed over, and the buffer
abbrev pub write_report : Operation
write_report = record { Given = ℕ × Pipeline × List ℕ; Answer = ℕ × List ℕ; promised = λ x. written (report x.0 x.1) x.2 }

pub one_report_image : OneAnswer report_image
one_report_image x r s a b = a ∙ sym b

pub one_image_run : OneAnswer image_run_lem
one_image_run x r s a b = a ∙ sym b

pub one_write_report : OneAnswer write_report
one_write_report x r s a b = a ∙ sym b

-- a report, to be computed
unfoldable pub writes : List ℕ → List ℕ
unfolding computing bytes digits decimal line status_text status_line register_names register_name register_line register_lines
    count_lines kind_lines end_lines report image_refused image_start image_run reported
writes image = reported image

-- "For the one byte 00 it writes exactly these lines"
pub p1_written : writes (0x00 ∷ []) ≡ bytes "y86run\t1\nstat\tHLT\nlast\t0\ncodes\t4\nretired\t1\ncycles\t5\nloaduse\t0\nmispredict\t0\nreturn\t0\n"
unfolding writes
p1_written = refl

-- the other stops: `60` and `d0`
pub p5_written : writes (0x60 ∷ []) ≡ bytes "y86run\t1\nstat\tADR\nlast\t0\ncodes\t4\nretired\t1\ncycles\t5\nloaduse\t0\nmispredict\t0\nreturn\t0\n"
unfolding writes
p5_written = refl

pub p3_written : writes (0xd0 ∷ []) ≡ bytes "y86run\t1\nstat\tINS\nlast\t0\ncodes\t4\nretired\t1\ncycles\t5\nloaduse\t0\nmispredict\t0\nreturn\t0\n"
unfolding writes
p3_written = refl

-- irmovq $k for each register k below n, downwards, and halt
abbrev settings : ℕ → List ℕ
settings zero = 0x00 ∷ []
settings (suc k) = 0x30 ∷ (0xf0 + k) ∷ k ∷ (replicate 7 0 ++ settings k)

-- every register but rax, which is 0, has its line, in number order
pub registers_written : writes (settings 15) ≡ bytes
    "y86run\t1\nstat\tHLT\nlast\t150\ncodes\t4\nretired\t16\ncycles\t20\nloaduse\t0\nmispredict\t0\nreturn\t0\nreg\trcx\t1\nreg\trdx\t2\nreg\trbx\t3\nreg\trsp\t4\nreg\trbp\t5\nreg\trsi\t6\nreg\trdi\t7\nreg\tr8\t8\nreg\tr9\t9\nreg\tr10\t10\nreg\tr11\t11\nreg\tr12\t12\nreg\tr13\t13\nreg\tr14\t14\n"
unfolding writes
registers_written = refl

-- irmovq $-1, rax, halt: 2^64 - 1 is written unsigned
pub unsigned_written : writes (0x30 ∷ 0xf0 ∷ replicate 8 0xff ++ 0x00 ∷ []) ≡ bytes
    "y86run\t1\nstat\tHLT\nlast\t10\ncodes\t4\nretired\t2\ncycles\t6\nloaduse\t0\nmispredict\t0\nreturn\t0\nreg\trax\t18446744073709551615\n"
unfolding writes
unsigned_written = refl

-- WRONG REPORTS, each at the image `00`
abbrev halting : List ℕ × List ℕ
halting = (0x00 ∷ [], replicate 652 0)

-- one that refuses all hands over 19 bytes, where it ought to be 84
pub report_refuses : FallsFoul report_image (λ x. (19, bytes "y86run\t1\nrefused\t1\n" ++ drop 19 x.1, x.0)) halting
unfolding writes replayed
report_refuses = differs (λ r. r.0) 19 84 refl

-- one that writes nothing
pub report_idles : FallsFoul report_image (λ x. (0, x.1, x.0)) halting
unfolding writes replayed
report_idles = differs (λ r. r.0) 0 84 refl

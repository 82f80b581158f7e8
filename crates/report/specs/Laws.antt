-- Laws of the report: which images are refused, what is written then, and that the report fits. Assumes nothing.
use Rattle.std.specs.Prelude.{◌≡◌, refl, Bool, true, false, cond, List, [], ◌++◌, ℕ, ◌^◌, ◌≤◌, ◌<◌, length, get_or, eqb, ltb}
use Rattle.std.proofs.Common.{ap, arith, length-append, ne_eqb, lt-ltb, le-ltb, ltb-false}
use Rattle.clocked.specs.declared.Pipeline.{Pipeline}
use Rattle.clocked.specs.Charges.{no_kinds}
use Rattle.clocked.specs.Pipeline.{pipe_start}
use Rattle.machine.specs.Runs.{size_refused, budget_refused, log_refused, window_refused}
use Rattle.clocked.specs.PipeRuns.{settings_refused, record_refused, counts_refused, refused_in_d, refused_in_e, refused_in_m}
use Rattle.machine.specs.Runs.{lowest}
use Rattle.clocked.specs.PipeRuns.{refused_in_w, refused_kept, pipe_refusal, pipe_done, pipe_by, pipe_run_unlogged}
use Rattle.laws.specs.Tests.{neither}
use Rattle.text.specs.Bytes.{bytes}
use Rattle.text.specs.Put.{written_within}
use Rattle.text.specs.Decimal.{digits, decimal, word_length}
use Rattle.report_lines.specs.Lines.{line, number_line, status_length, counts_length, kinds_length}
use Rattle.register_lines.specs.Registers.{registers_length}
use Rattle.report.specs.Report.{end_lines, report, image_refused, image_start, image_run, reported, replayed}

-- an image that the program holds is one that the engines take
taken : (image : List ℕ) → image_refused (length image) ≡ false → size_refused (length image) ≡ false
unfolding image_refused size_refused
taken image h =
    let p = neither (eqb (length image) 0) (ltb 4096 (length image)) h in
    rw (p.0, le-ltb 65536 (length image) (omega (arith, ltb-false 4096 (length image) p.1)))

-- an image is refused only for its size
pub refused_by_size : (image : List ℕ) → (image_run image).number ≡ cond (image_refused (length image)) 1 0
unfolding image_run image_start pipe_run_unlogged pipe_by pipe_done pipe_refusal lowest budget_refused log_refused window_refused record_refused settings_refused counts_refused
    refused_in_d refused_in_e refused_in_m refused_in_w refused_kept pipe_start no_kinds
refused_by_size image = go (image_refused (length image)) refl
  where
    go : (t : Bool) → image_refused (length image) ≡ t → (image_run image).number ≡ cond (image_refused (length image)) 1 0
    go true e = rw e
    go false e = rw (e, taken image e)

-- "Refused: `y86run 1` and `refused 1`", with a tab for each space
pub refusal_written : (image : List ℕ) → image_refused (length image) ≡ true → reported image ≡ bytes "y86run\t1\nrefused\t1\n"
unfolding reported report line digits decimal bytes
refusal_written image h = rw (refused_by_size image, h)

-- so of an image of more than 4,096 bytes, of which main reads 4,097
pub too_long : (image : List ℕ) → 4096 < length image → reported image ≡ bytes "y86run\t1\nrefused\t1\n"
unfolding image_refused
too_long image h = refusal_written image (rw (ne_eqb (length image) 0 (λ e. omega arith), lt-ltb 4096 (length image) h))

-- and of none
pub none_read : reported [] ≡ bytes "y86run\t1\nrefused\t1\n"
unfolding image_refused
none_read = refusal_written [] refl

-- THE LENGTH: no report is longer than 652 bytes
-- the numbers of a record are words
pub record Words (p : Pipeline) : Type 0 where
  pub last : p.last < 2 ^ 64
  pub retired : p.retired < 2 ^ 64
  pub cycles : p.cycles < 2 ^ 64
  pub loaduse : p.kinds.loaduse < 2 ^ 64
  pub mispredict : p.kinds.mispredict < 2 ^ 64
  pub returned : p.kinds.returned < 2 ^ 64
  pub registers : (i : ℕ) → get_or p.registers i 0 < 2 ^ 64

end_length : (p : Pipeline) → Words p → length (end_lines p) ≤ 643
unfolding end_lines
end_length p w =
    simp length-append
    (omega (
      arith,
      status_length p.status,
      counts_length p w.last w.retired w.cycles,
      kinds_length p.kinds w.loaduse w.mispredict w.returned,
      registers_length 15 p.registers w.registers,
    ))

pub report_length : (n : ℕ) (p : Pipeline) → n < 2 ^ 64 → Words p → length (report n p) ≤ 652
unfolding report line bytes
report_length n p h w = go (eqb n 0)
  where
    go : (t : Bool) → length (line (bytes "y86run") (bytes "1") ++ cond t (end_lines p) (number_line "refused" n)) ≤ 652
    go true = simp length-append (omega (arith, end_length p w))
    go false = simp length-append (omega (arith, word_length n h))

-- THE BUFFER
-- the bytes handed over stand in the buffer
pub handed_over : (image out out' image' : List ℕ) (n : ℕ)
    → ◌≡◌ {A = ℕ × List ℕ × List ℕ} (n, out', image') (replayed image out) → n ≤ length out'
unfolding replayed
handed_over image out out' image' n e = written_within (reported image) out out' n (ap (λ (x : ℕ × List ℕ × List ℕ). (x.0, x.1)) e)

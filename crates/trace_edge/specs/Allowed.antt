-- What holds where a check is not refused. Assumes nothing.
use Rattle.std.specs.Prelude.{◌≡◌, Bool, false, not, ◌||◌, ℕ, eqb, ltb}
use Rattle.std.proofs.Common.{sym, ◌∙◌}
use borrow.Author.Tests.{eqb-true, not-false}
use Rattle.machine.specs.Runs.{size_refused, lowest}
use Rattle.laws.specs.Tests.{neither}
use Rattle.answers.specs.Refusals.{failed}
use Rattle.trace_edge.specs.Checks.{check_refusal}

pub record Allowed (image registers copy verdict : ℕ) (settings : Bool) : Type 0 where
  pub size : size_refused image ≡ false
  pub whole : registers ≡ 120
  pub same : copy ≡ image
  pub room : verdict ≡ 16
  pub ranged : settings ≡ false

pub allowed : (image registers copy verdict start codes : ℕ) (settings : Bool) (n : ℕ) → n ≡ check_refusal image registers copy verdict start codes settings → n ≡ 0
    → Allowed image registers copy verdict settings
unfolding check_refusal lowest
allowed image registers copy verdict start codes settings n h z =
    let p1 = failed (size_refused image) 0 _ (sym h ∙ z) in
    let p2 = failed (not (eqb registers 120)) 1 _ p1.1 in
    let p4 = failed (not (eqb copy image) || not (eqb verdict 16)) 3 _ p2.1 in
    let p5 = failed (ltb 7 codes || settings) 4 _ p4.1 in
    let q4 = neither (not (eqb copy image)) (not (eqb verdict 16)) p4.0 in
    record {
      size = p1.0;
      whole = eqb-true registers 120 (not-false (eqb registers 120) p2.0);
      same = eqb-true copy image (not-false (eqb copy image) q4.0);
      room = eqb-true verdict 16 (not-false (eqb verdict 16) q4.1);
      ranged = (neither (ltb 7 codes) settings p5.0).1;
    }

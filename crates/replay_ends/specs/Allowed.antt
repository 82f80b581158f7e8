-- What holds where a replay is not refused. Assumes nothing.
use Rattle.std.specs.Prelude.{◌≡◌, refl, Bool, true, false, cond, not, ◌||◌, ℕ, ◌≤◌, eqb, ltb, Option, None, Some, is_none}
use Rattle.std.proofs.Common.{sym, ◌∙◌, eqb-true, ltb-false}
use Rattle.std.proofs.lemmas.Bool.{not-false}
use Rattle.laws.specs.Tests.{neither}
use Rattle.machine.specs.Runs.{size_refused, budget_refused, window_refused, lowest}
use Rattle.clocked.specs.PipeRuns.{settings_refused, pipe_limit}
use Rattle.clocked.specs.declared.Settings.{Settings}
use Rattle.answers.specs.Refusals.{failed}
use Rattle.replay_ends.specs.declared.settings.Numbers.{Numbers}
use Rattle.replay_ends.specs.Ends.{settings_of, window_of, numbers_refused, replay_refusal}

pub record Allowed (block : ℕ) (chosen : Bool) (memory registers result budget : ℕ) : Type 0 where
  pub size : size_refused memory ≡ false
  pub whole : registers ≡ 120
  pub budgeted : budget_refused pipe_limit 0 budget ≡ false
  pub room : result ≡ block
  pub settled : chosen ≡ false

pub allowed : (block : ℕ) (chosen : Bool) (memory registers result start codes budget n : ℕ)
    → n ≡ replay_refusal block chosen memory registers result start codes budget → n ≡ 0 → Allowed block chosen memory registers result budget
unfolding replay_refusal lowest
allowed block chosen memory registers result start codes budget n h z =
    let p1 = failed (size_refused memory) 0 _ (sym h ∙ z) in
    let p2 = failed (not (eqb registers 120)) 1 _ p1.1 in
    let p3 = failed (budget_refused pipe_limit 0 budget) 2 _ p2.1 in
    let p4 = failed (not (eqb result block)) 3 _ p3.1 in
    let p5 = failed (ltb 7 codes || chosen) 4 _ p4.1 in
    record {
      size = p1.0;
      whole = eqb-true registers 120 (not-false (eqb registers 120) p2.0);
      budgeted = p3.0;
      room = eqb-true result block (not-false (eqb result block) p4.0);
      settled = (neither (ltb 7 codes) chosen p5.0).1;
    }

-- settings that are in their range are refused by no run, and their rule is one of the three
pub record InRange (n : Numbers) (size : ℕ) : Type 0 where
  pub settings : settings_refused (settings_of n) ≡ false
  pub window : window_refused (window_of n) size ≡ false
  pub rule : n.rule ≤ 2

pub in_range : (n : Numbers) (size : ℕ) → numbers_refused n size ≡ false → InRange n size
unfolding numbers_refused settings_refused settings_of
in_range n size h =
    let a = neither (ltb 1 n.late) _ h in
    let b = neither (ltb 1 n.windowed) _ a.1 in
    let c = neither (ltb 2 n.rule) _ b.1 in
    record { settings = c.0; window = c.1; rule = ltb-false 2 n.rule c.0 }

-- what is chosen by numbers: nothing where they are out of their range, and else their settings
module _ (m : Numbers) (size : ℕ) (o : Option Settings) (e : o ≡ cond (numbers_refused m size) None (Some (settings_of m))) where
  pub is_chosen : is_none o ≡ numbers_refused m size
  is_chosen = rw e (go (numbers_refused m size))
    where
      go : (b : Bool) → is_none (cond b None (Some (settings_of m))) ≡ b
      go true = refl
      go false = refl

  pub which_chosen : (s : Settings) → o ≡ Some s → s ≡ settings_of m
  which_chosen s h = go (numbers_refused m size) (sym h ∙ e)
    where
      go : (b : Bool) → Some s ≡ cond b None (Some (settings_of m)) → s ≡ settings_of m
      go true q = cc
      go false q = cc

-- One law for each way out of a function, over variables for what its callees gave. Assumes nothing.
use mathlib.Core.Path.{◌≡◌, refl, ap, sym, ◌∙◌}
use mathlib.Core.Bool.{cond}
use Rattle.std.specs.Prelude.{Option, None, Some, is_none, MatchOption}
use mathlib.Core.List.{List, [], ◌∷◌}
use Prim.Native.Nat.{ℕ}
use borrow.Author.Tests.{ne_eqb}
use lib.ListN.{length}
use Rattle.machine.specs.declared.Codes.{Codes}
use Rattle.machine.specs.declared.Machine.{Machine}
use Rattle.machine.specs.Types.{no_window}
use Rattle.clocked.specs.declared.Settings.{Settings}
use Rattle.machine.specs.Memory.{Memory, lent, through}
use Rattle.machine.specs.Plain.{Plain, plain_of, plain_start, steps}
use Rattle.machine.specs.Runs.{plain_started}
use Rattle.clocked.specs.Prediction.{core_of}
use Rattle.block.specs.Block.{words_in, with_words, codes_from}
use Rattle.trace.specs.declared.Kind.{Kind}
use Rattle.trace.specs.declared.Verdict.{Verdict}
use Rattle.trace.specs.Verdict.{kind_number, verdict}
use Rattle.checking.specs.Loop.{Fresh}
use Rattle.replay_ends.specs.declared.settings.Numbers.{Numbers}
use Rattle.replay_ends.specs.Ends.{window_of, settings_of, numbers_refused}
use Rattle.replay_ends.specs.Allowed.{in_range, is_chosen, which_chosen}
use Rattle.trace_edge.specs.Checks.{check, check_refusal, start_of, check_done, checked}
use Rattle.trace_edge.specs.Allowed.{Allowed, allowed}

-- THE ENTRY
module _ (image registers trace copy block : List ℕ) (start codes : ℕ) (chosen : Numbers) (o : Option Settings)
    (picked : o ≡ cond (numbers_refused chosen (length image)) None (Some (settings_of chosen))) (n : ℕ)
    (told : n ≡ check_refusal (length image) (length registers) (length copy) (length block) start codes (is_none o)) where
  tested : is_none o ≡ numbers_refused chosen (length image)
  tested = is_chosen chosen (length image) o picked

  pub refuses : (n ≡ 0 → ⊥) → check n copy block ≡ checked image registers trace copy block start codes chosen
  unfolding checked
  refuses h = rw (sym tested, sym told, ne_eqb n 0 h)

  module _ (z : n ≡ 0) where
    pub lets : Allowed (length image) (length registers) (length copy) (length block) (is_none o)
    lets = allowed (length image) (length registers) (length copy) (length block) start codes (is_none o) n told z

    module _ (settings : Settings) (k : Machine) (m : ℕ) (words : List ℕ) (c : Codes) (s_is : o ≡ Some settings) (w_is : words ≡ words_in 15 registers 0)
        (c_is : c ≡ codes_from codes) (k_is : ◌≡◌ {A = ℕ × Machine} (m, k) (plain_started settings.window (length image) words c start)) where
      which : settings ≡ settings_of chosen
      which = which_chosen chosen (length image) o picked settings s_is

      machine_is : k ≡ plain_start (window_of chosen) (words_in 15 registers 0) (codes_from codes) start
      unfolding plain_started settings_of
      machine_is =
          let e : k ≡ plain_start settings.window words c start = ap (λ (x : ℕ × Machine). x.1) k_is in
          e ∙ rw (which, w_is, c_is)

      pub fresh : (bytes : List ℕ) → bytes ≡ image → Fresh k bytes
      unfolding plain_start
      fresh bytes e =
          rw (e, machine_is)
          (record { none_performed = refl; size_fits = lets.size; window_fits = (in_range chosen (length image) (sym tested ∙ lets.ranged)).window })

      pub done : (bytes copy' block' : List ℕ) (v : Verdict) (n' : ℕ) → bytes ≡ image
          → (v ≡ verdict (core_of settings) (plain_of k (lent bytes)) trace) × (lent copy' ≡ through no_window (steps (plain_of k (lent bytes)) v.right).memory)
          → n' ≡ kind_number v.kind → block' ≡ with_words (v.line ∷ n' ∷ []) block 0 → check 0 copy' block' ≡ checked image registers trace copy block start codes chosen
      unfolding checked check_done start_of
      done bytes copy' block' v n' e p q f =
          let start_is : plain_of k (lent bytes) ≡ plain_of (plain_start (window_of chosen) (words_in 15 registers 0) (codes_from codes) start) (lent image) = rw (e, machine_is) in
          let v_is : v ≡ verdict (core_of (settings_of chosen)) (start_of image registers start codes chosen) trace = p.0 ∙ ends start_is in
          let copy_is : copy' ≡ (steps (start_of image registers start codes chosen) v.right).memory.bytes = ap (λ (x : Memory). x.bytes) p.1 ∙ ap (λ (x : Plain). (steps x v.right).memory.bytes) start_is in
          let let_in : check_refusal (length image) (length registers) (length copy) (length block) start codes (numbers_refused chosen (length image)) ≡ 0 = sym (told ∙ ap (check_refusal (length image) (length registers) (length copy) (length block) start codes) tested) ∙ z in
          rw let_in (cc)
        where
          ends : {s t : Plain} → s ≡ t → verdict (core_of settings) s trace ≡ verdict (core_of (settings_of chosen)) t trace
          ends {s} {t} q = ap (λ (x : Settings). verdict (core_of x) s trace) which ∙ ap (λ (x : Plain). verdict (core_of (settings_of chosen)) x trace) q

-- THE KIND'S NUMBER: none is 0
pub kind_mapped : (k : Option Kind) (n : ℕ) → MatchOption k (n ≡ 0) (λ x. n ≡ kind_number (Some x)) → n ≡ kind_number k
unfolding kind_number
kind_mapped None n h = h
kind_mapped (Some x) n h = h

-- Whether two images differ only where nothing is looked at can be tested, on a plain run that stops.
use Rattle.std.specs.Prelude.{ℕ, zero, suc, ◌-◌, ◌<◌, Bool, ◌||◌, ◌≢◌, ◌↔◌, ◌≡◌}
use Rattle.std.proofs.Math.Bool.{true, false, not}
use Rattle.std.proofs.Common.{true≢false, sym, ◌∙◌, arith, eqb-true, eq-eqb}
use Rattle.std.proofs.Math.Path.{refl}
use Rattle.std.proofs.Math.Decide.{dec_lt}
use Rattle.std.proofs.lemmas.Bool.{eqb-false}
use Rattle.std.proofs.Math.Dec.{eqb}
use Rattle.std.proofs.Math.ListN.{get_or-eq_default}
use Rattle.machine.specs.Memory.{Memory, holding, size}
use Rattle.machine.specs.Plain.{Plain, is_stopped, steps}
use Rattle.published.specs.Fetching.{M₁}
use Rattle.account.proofs.Sight.{both, runs_before}
use Rattle.account.proofs.Timing.{up_to}
use Rattle.account.specs.Decide.{all}
use Rattle.junk.specs.Statement.{looks_at, reads_byte, Never, NoPart, DifferOnlyAt}
use Rattle.junk.specs.Decide.{differs, never, no_part}

-- ALL OF THEM, each of them
all_each : (n : ℕ) (f : ℕ → Bool) → all n f ≡ true → (i : ℕ) → i < n → f i ≡ true
unfolding all
all_each zero f h i q = absurd (omega arith)
all_each (suc n) f h i q =
    let b = both (f n) (all n f) h in
    up_to {P = λ (j : ℕ). f j ≡ true} n (all_each n f b.1) b.0 i q

each_all : (n : ℕ) (f : ℕ → Bool) → ((i : ℕ) → i < n → f i ≡ true) → all n f ≡ true
unfolding all
each_all zero f h = refl
each_all (suc n) f h = cc (h n (omega arith), each_all n f (λ i q. h i (omega arith)))

or_else : (b c : Bool) → b ≡ false → b || not c ≡ true → c ≡ false
or_else b true h z = sym z ∙ cc
or_else b false h z = refl

-- A RUN THAT STOPS within K instructions
module _ (s : Plain) (K : ℕ) (stops : is_stopped (steps s K) ≡ true) where
  within : (n : ℕ) → is_stopped (steps s n) ≡ false → n < K
  within n r = go (dec_lt n K)
    where
      go : Dec (n < K) → n < K
      go (yes z) = z
      go (no z) = absurd (true≢false (sym stops ∙ runs_before s (n - K) K n (omega arith) r))

  pub never_sound : (f : Plain → ℕ → Bool) (x : ℕ) → never f s K x ≡ true → Never f s x
  unfolding never
  never_sound f x h n r = or_else (is_stopped (steps s n)) (f (steps s n) x) r (all_each K (λ n. is_stopped (steps s n) || not (f (steps s n) x)) h n (within n r))

  pub never_complete : (f : Plain → ℕ → Bool) (x : ℕ) → Never f s x → never f s K x ≡ true
  unfolding never
  never_complete f x h = each_all K (λ n. is_stopped (steps s n) || not (f (steps s n) x)) (λ n q. go n (is_stopped (steps s n)) refl)
    where
      go : (n : ℕ) (b : Bool) → is_stopped (steps s n) ≡ b → b || not (f (steps s n) x) ≡ true
      go n true e = refl
      go n false e = cc (h n e)

  pub part_sound : (x : ℕ) → no_part s K x ≡ true → NoPart s x
  unfolding no_part
  part_sound x h = let b = both (never looks_at s K x) (never reads_byte s K x) h in (never_sound looks_at x b.0, never_sound reads_byte x b.1)

  pub part_complete : (x : ℕ) → NoPart s x → no_part s K x ≡ true
  unfolding no_part
  part_complete x h = cc (never_complete looks_at x h.0, never_complete reads_byte x h.1)

-- TWO IMAGES
module _ (p : ℕ → Bool) (P : ℕ → Type 0) (m m' : Memory) (rest : m' ≡ holding m m'.bytes) where
  pub differs_sound : ((x : ℕ) → p x ≡ true → P x) → differs p m m' ≡ true → DifferOnlyAt P m m'
  unfolding differs
  differs_sound f h = record { rest = rest; sizes = sizes; only = only }
    where
      each : (eqb (size m) (size m') ≡ true) × (all (size m) (λ x. eqb (M₁ m x) (M₁ m' x) || p x) ≡ true)
      each = both (eqb (size m) (size m')) _ h

      sizes : size m ≡ size m'
      sizes = eqb-true (size m) (size m') each.0

      only : (x : ℕ) → M₁ m x ≢ M₁ m' x → P x
      only x d = go (dec_lt x (size m))
        where
          here : (b : Bool) → eqb (M₁ m x) (M₁ m' x) ≡ b → b || p x ≡ true → P x
          here true e z = absurd (d (eqb-true _ _ e))
          here false e z = f x z

          go : Dec (x < size m) → P x
          go (yes q) = here (eqb (M₁ m x) (M₁ m' x)) refl (all_each (size m) (λ x. eqb (M₁ m x) (M₁ m' x) || p x) each.1 x q)
          go (no q) = absurd (d (get_or-eq_default m.bytes 0 (omega arith) ∙ sym (get_or-eq_default m'.bytes 0 (omega (arith, sizes)))))

  differs_complete : ((x : ℕ) → P x → p x ≡ true) → DifferOnlyAt P m m' → differs p m m' ≡ true
  unfolding differs
  differs_complete f d =
      cc (eq-eqb (size m) (size m') d.sizes, each_all (size m) (λ x. eqb (M₁ m x) (M₁ m' x) || p x) (λ x q. go x (eqb (M₁ m x) (M₁ m' x)) refl))
    where
      go : (x : ℕ) (b : Bool) → eqb (M₁ m x) (M₁ m' x) ≡ b → b || p x ≡ true
      go x true e = refl
      go x false e = f x (d.only x (eqb-false _ _ e))

-- where the plain run stops within K instructions, images that differ in nothing but their bytes can be tested
pub decided : (s : Plain) (K : ℕ) → is_stopped (steps s K) ≡ true → (m m' : Memory) → m' ≡ holding m m'.bytes
    → (differs (no_part s K) m m' ≡ true) ↔ DifferOnlyAt (NoPart s) m m'
decided s K stops m m' rest =
    (differs_sound (no_part s K) (NoPart s) m m' rest (part_sound s K stops), differs_complete (no_part s K) (NoPart s) m m' rest (part_complete s K stops))

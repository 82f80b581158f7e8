-- Where the premise breaks: the first instruction at which document 01's does, and the first at which the weakest does, and what either says of the
-- pipeline.
use Rattle.std.specs.Prelude.{ℕ, zero, suc, ◌≤◌, ◌<◌, Bool, true, false, ◌↔◌, ◌≡◌, refl, length}
use Rattle.std.proofs.Common.{true≢false, sym, ◌∙◌, arith}
use Rattle.std.proofs.Math.Dec.{eqb-suc-zero}
use Rattle.laws.specs.Tests.{neither}
use Rattle.machine.specs.Types.{is_set}
use Rattle.machine.specs.Plain.{Plain, is_stopped, steps}
use Rattle.clocked.specs.Prediction.{Core}
use Rattle.clocked.specs.Charges.{due}
use Rattle.clocked.specs.Pipeline.{clocks}
use Rattle.clocked.specs.Premise.{Premise}
use Rattle.account.specs.Statement.{Start, plain_from, piped_from, Agrees}
use Rattle.account.specs.Seen.{Seen}
use Rattle.account.proofs.Sight.{premise_seen}
use Rattle.account.proofs.Theorem.{demand3_seen}
use Rattle.account.specs.Decide.{all, clear, untouched, asked}
use Rattle.account.proofs.Decide.{all_each, decided}
use Rattle.account.specs.DecideSeen.{is_alike, well_fetched, all_alike}
use Rattle.account.proofs.DecideSeen.{alike_decided, seen_decided}
use Rattle.account.specs.Needed.{FailedAccess}
use Rattle.account.proofs.Exact.{shows}
use Rattle.account.specs.Watch.{FirstMistaken, first_failing, mistaken, written_into}

-- it is none, and all hold; or it is k + 1, that fails, and all before hold
pub data First (f : ℕ → Bool) (n r : ℕ) : Type 0 where
  none : r ≡ 0 → all n f ≡ true → First f n r
  failing : (k : ℕ) → r ≡ suc k → k < n → f k ≡ false → all k f ≡ true → First f n r

first : (f : ℕ → Bool) (n : ℕ) → First f n (first_failing f n)
unfolding first_failing all
first f zero = none refl refl
first f (suc n) = go (first f n)
  where
    by : (b : Bool) → f n ≡ b → first_failing f n ≡ 0 → all n f ≡ true → First f (suc n) (first_failing f (suc n))
    by true e z h = none (cc) (cc)
    by false e z h = failing n (cc) (omega arith) e h

    go : First f n (first_failing f n) → First f (suc n) (first_failing f (suc n))
    go (none z h) = by (f n) refl z h
    go (failing k z q e h) = failing k (cc (eqb-suc-zero k)) (omega arith) e h

-- none is document 01's premise, and none is the weakest; and where the first holds so does the second
pub premise_watched : (s : Plain) (n : ℕ) → (written_into s n ≡ 0) ↔ Premise s n
unfolding written_into asked untouched
premise_watched s n = (
  λ h. (decided s n).0 (go (is_set s.memory.window) (first (clear 3 s) n) refl h),
  λ u. back (is_set s.memory.window) (first (clear 3 s) n) refl ((decided s n).1 u),
)
  where
    go : (b : Bool) → First (clear 3 s) n (first_failing (clear 3 s) n) → is_set s.memory.window ≡ b → written_into s n ≡ 0 → asked s n ≡ true
    go true x e h = cc
    go false (none z y) e h = cc
    go false (failing k z q y w) e h =
        let some : written_into s n ≡ suc k = cc in
        absurd (omega (arith, sym some ∙ h))

    back : (b : Bool) → First (clear 3 s) n (first_failing (clear 3 s) n) → is_set s.memory.window ≡ b → asked s n ≡ true → written_into s n ≡ 0
    back true x e h = cc
    back false (none z y) e h = cc
    back false (failing k z q y w) e h = absurd (true≢false (sym (all_each n (clear 3 s) (cc) k q) ∙ y))

pub seen_watched : (g : Core) (s : Plain) (n : ℕ) → (mistaken g s n ≡ 0) ↔ Seen g s n
unfolding mistaken all_alike
seen_watched g s n = (λ h. (seen_decided g s n).0 (go (first (well_fetched g s) n) h), λ u. back (first (well_fetched g s) n) ((seen_decided g s n).1 u))
  where
    go : First (well_fetched g s) n (mistaken g s n) → mistaken g s n ≡ 0 → all_alike g s n ≡ true
    go (none z y) h = y
    go (failing k z q y w) h = absurd (omega (arith, sym z ∙ h))

    back : First (well_fetched g s) n (mistaken g s n) → all_alike g s n ≡ true → mistaken g s n ≡ 0
    back (none z y) h = z
    back (failing k z q y w) h = absurd (true≢false (sym (all_each n (well_fetched g s) h k q) ∙ y))

pub premise_first : (g : Core) (s : Plain) (n : ℕ) → written_into s n ≡ 0 → mistaken g s n ≡ 0
premise_first g s n h = (seen_watched g s n).1 (premise_seen g s n ((premise_watched s n).0 h))

pub mistaken_first : (g : Core) (s : Plain) (n k : ℕ) → mistaken g s n ≡ suc k → FirstMistaken g s n k
unfolding mistaken well_fetched all_alike
mistaken_first g s n k h = go (first (well_fetched g s) n)
  where
    made : k < n → well_fetched g s k ≡ false → all k (well_fetched g s) ≡ true → FirstMistaken g s n k
    made q y w =
        let e = neither (is_stopped (steps s k)) (is_alike g s k) y in
        record { below = q; runs = e.0; before = (seen_decided g s k).0 w; other = λ u. true≢false (sym ((alike_decided g s k).1 u) ∙ e.1) }

    go : First (well_fetched g s) n (mistaken g s n) → FirstMistaken g s n k
    go (none z y) = absurd (omega (arith, sym z ∙ h))
    go (failing j z q y w) =
        let e : j ≡ k = omega (arith, sym z ∙ h) in
        made (omega arith) (rw (← e) y) (rw (← e) w)

-- WHAT IT SAYS OF THE PIPELINE
module _ (g : Core) (t : Start) (l : length t.registers ≡ 15) where
  -- none among the first k + 1: it agrees up to the cycle in which the last is due
  pub unmistaken_agrees : (k : ℕ) → mistaken g (plain_from t) (suc k) ≡ 0 → (c : ℕ) → c ≤ due g (plain_from t) (suc k)
      → (n : ℕ) × Agrees g (plain_from t) (clocks g (piped_from t) c) c n
  unmistaken_agrees k h = demand3_seen g t l k ((seen_watched g (plain_from t) (suc k)).0 h)

  -- the first is k + 1: in the cycle in which that is due it does not agree, unless both engines fail there at an access
  pub mistaken_shows : (n k : ℕ) → mistaken g (plain_from t) n ≡ suc k → (FailedAccess (steps (plain_from t) (suc k)) → ⊥)
      → (m : ℕ) → Agrees g (plain_from t) (clocks g (piped_from t) (due g (plain_from t) (suc k))) (due g (plain_from t) (suc k)) m → ⊥
  mistaken_shows n k h f m a =
      let x = mistaken_first g (plain_from t) n k h in
      f (shows g t l k x.before x.runs x.other m a).0

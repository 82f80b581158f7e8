-- Laws of parted texts. Assumes nothing.
use Rattle.std.specs.Prelude.{◌≡◌, Bool, true, false, cond, List, ◌||◌, ℕ, zero, suc, ◌+◌, ◌≤◌, ◌<◌, eqb, length, get_or, take, drop}
use Rattle.std.proofs.Math.Path.{refl}
use Rattle.std.proofs.Common.{ap, sym, ◌∙◌, arith, length-append, take_at, eqb-true, eq-eqb}
use mathlib.Core.List.{[], ◌∷◌, ◌++◌}
use Rattle.std.proofs.Math.Seq.{drop-append-add, take-length}
use Rattle.laws.specs.Tests.{neither}
use Rattle.text.specs.Parts.{Text, has, before, behind, longer, line_feed, lines}

pub has_joined : (c : ℕ) (l m : Text) → has c (l ++ m) ≡ (has c l || has c m)
unfolding has
has_joined c [] m = refl
has_joined c (x ∷ l) m = go (eqb x c) (has_joined c l m)
  where
    go : (b : Bool) → has c (l ++ m) ≡ (has c l || has c m) → (b || has c (l ++ m)) ≡ ((b || has c l) || has c m)
    go true ih = refl
    go false ih = ih

-- A TEXT THAT HAS c: what stands before it, c, and what stands behind
pub parted : (c : ℕ) (t : Text) → has c t ≡ true → t ≡ before c t ++ c ∷ behind c t
unfolding has before behind
parted c [] h = absurd (cc)
parted c (x ∷ t) h = go (eqb x c) refl (parted c t)
  where
    go : (b : Bool) → eqb x c ≡ b → (has c t ≡ true → t ≡ before c t ++ c ∷ behind c t) → x ∷ t ≡ before c (x ∷ t) ++ c ∷ behind c (x ∷ t)
    go true e ih = rw e (ap (λ (y : ℕ). y ∷ t) (eqb-true x c e))
    go false e ih = rw e (ap (λ (l : Text). x ∷ l) (ih (rw e at h)))

pub has_before : (c : ℕ) (t : Text) → has c (before c t) ≡ false
unfolding has before
has_before c [] = refl
has_before c (x ∷ t) = go (eqb x c) refl (has_before c t)
  where
    go : (b : Bool) → eqb x c ≡ b → has c (before c t) ≡ false → has c (before c (x ∷ t)) ≡ false
    go true e ih = rw e refl
    go false e ih = rw e (rw e ih)

-- A TEXT WITHOUT c
module _ (c : ℕ) where
  pub before_whole : (t : Text) → has c t ≡ false → before c t ≡ t
  unfolding has before
  before_whole [] h = refl
  before_whole (x ∷ t) h =
      let p = neither (eqb x c) (has c t) h in
      rw p.0 (ap (λ (l : Text). x ∷ l) (before_whole t p.1))

  pub behind_none : (t : Text) → has c t ≡ false → behind c t ≡ []
  unfolding has behind
  behind_none [] h = refl
  behind_none (x ∷ t) h =
      let p = neither (eqb x c) (has c t) h in
      rw p.0 (behind_none t p.1)

  pub before_joined : (l t : Text) → has c l ≡ false → before c (l ++ c ∷ t) ≡ l
  unfolding has before
  before_joined [] t h = rw (eq-eqb c c refl)
  before_joined (x ∷ l) t h =
      let p = neither (eqb x c) (has c l) h in
      rw p.0 (ap (λ (m : Text). x ∷ m) (before_joined l t p.1))

  pub behind_joined : (l t : Text) → has c l ≡ false → behind c (l ++ c ∷ t) ≡ t
  unfolding has behind
  behind_joined [] t h = rw (eq-eqb c c refl)
  behind_joined (x ∷ l) t h =
      let p = neither (eqb x c) (has c l) h in
      rw p.0 (behind_joined l t p.1)

-- THE PLACE OF THE FIRST c
module _ (c : ℕ) (t : Text) where
  pub before_shorter : length (before c t) ≤ length t
  before_shorter = go (has c t) refl
    where
      go : (b : Bool) → has c t ≡ b → length (before c t) ≤ length t
      go true e = omega (arith, simp length-append at (ap length (parted c t e)))
      go false e = omega (arith, ap length (before_whole c t e))

  pub has_there : length (before c t) < length t → has c t ≡ true
  has_there h = go (has c t) refl
    where
      go : (b : Bool) → has c t ≡ b → has c t ≡ true
      go true e = e
      go false e = absurd (omega (arith, ap length (before_whole c t e)))

  pub has_nowhere : length t ≤ length (before c t) → has c t ≡ false
  has_nowhere h = go (has c t) refl
    where
      go : (b : Bool) → has c t ≡ b → has c t ≡ false
      go true e = absurd (omega (arith, simp length-append at (ap length (parted c t e))))
      go false e = e

  pub before_taken : take (length (before c t)) t ≡ before c t
  before_taken = go (has c t) refl
    where
      go : (b : Bool) → has c t ≡ b → take (length (before c t)) t ≡ before c t
      go true e = ap (take (length (before c t))) (parted c t e) ∙ take_at (before c t) (c ∷ behind c t) (length (before c t)) refl
      go false e = ap (λ (l : Text). take (length l) t) (before_whole c t e) ∙ (take-length t ∙ sym (before_whole c t e))

  pub behind_dropped : has c t ≡ true → drop (length (before c t) + 1) t ≡ behind c t
  behind_dropped e = ap (drop (length (before c t) + 1)) (parted c t e) ∙ drop-append-add (before c t) (c ∷ behind c t) 1

-- LINES
-- a line that is ended comes first
pub lines_joined : (l t : Text) → has line_feed l ≡ false → lines (l ++ line_feed ∷ t) ≡ (l ++ line_feed ∷ []) ∷ lines t
unfolding has lines
lines_joined [] t h = refl
lines_joined (x ∷ l) t h =
    let p = neither (eqb x line_feed) (has line_feed l) h in
    rw p.0 (rw (lines_joined l t p.1))

pub lines_first : (t : Text) → has line_feed t ≡ true → lines t ≡ (before line_feed t ++ line_feed ∷ []) ∷ lines (behind line_feed t)
lines_first t h = ap lines (parted line_feed t h) ∙ lines_joined (before line_feed t) (behind line_feed t) (has_before line_feed t)

-- a last line that lacks its line feed
pub lines_last : (x : ℕ) (t : Text) → has line_feed (x ∷ t) ≡ false → lines (x ∷ t) ≡ (x ∷ t) ∷ []
unfolding has lines
lines_last x [] h = rw (neither (eqb x line_feed) false h).0 refl
lines_last x (y ∷ t) h =
    let p = neither (eqb x line_feed) (has line_feed (y ∷ t)) h in
    rw p.0 (rw (lines_last y t p.1))

-- A LINE'S LINE FEED stands last, if it has one: no byte of the line is behind it
abbrev pub FedLast : Text → Type 0
FedLast l = length l ≤ length (before line_feed l) + 1

longer_fed : (x : ℕ) (ls : List Text) → eqb x line_feed ≡ false → ((n : ℕ) (d : Text) → n < length ls → FedLast (get_or ls n d)) → (n : ℕ) (d : Text)
    → n < length (longer x ls) → FedLast (get_or (longer x ls) n d)
unfolding before
longer_fed x [] e h zero d l = rw e (omega arith)
longer_fed x [] e h (suc n) d l = absurd (omega arith)
longer_fed x (m ∷ ls) e h zero d l = let p = h 0 m (omega arith) in rw e (omega (arith, p))
longer_fed x (m ∷ ls) e h (suc n) d l = h (suc n) d l

pub fed_last : (t : Text) (n : ℕ) (d : Text) → n < length (lines t) → FedLast (get_or (lines t) n d)
unfolding lines
fed_last [] n d h = absurd (omega arith)
fed_last (x ∷ t) n d h = go (eqb x line_feed) refl n d h (fed_last t)
  where
    ended : ((n : ℕ) (d : Text) → n < length (lines t) → FedLast (get_or (lines t) n d)) → (n : ℕ) (d : Text) → n < length ((x ∷ []) ∷ lines t)
        → FedLast (get_or ((x ∷ []) ∷ lines t) n d)
    ended ih zero d h = omega arith
    ended ih (suc n) d h = ih n d (omega arith)

    go : (b : Bool) → eqb x line_feed ≡ b → (n : ℕ) (d : Text) → n < length (cond b ((x ∷ []) ∷ lines t) (longer x (lines t)))
        → ((n : ℕ) (d : Text) → n < length (lines t) → FedLast (get_or (lines t) n d)) → FedLast (get_or (cond b ((x ∷ []) ∷ lines t) (longer x (lines t))) n d)
    go true e n d h ih = ended ih n d h
    go false e n d h ih = longer_fed x (lines t) e ih n d h

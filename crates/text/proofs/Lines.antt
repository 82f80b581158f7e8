-- The lines of a text, as `split_inclusive` at line feeds gives them. Assumes nothing.
use mathlib.Core.Path.{◌≡◌, refl, sym, ap, subst, ◌∙◌}
use mathlib.Core.Bool.{Bool, true, false}
use mathlib.Core.List.{List, [], ◌∷◌, ◌++◌}
use Prim.Native.Nat.{ℕ, suc, ◌+◌, ◌<◌, min}
use native.Mathlib.Omega.{arith}
use lib.Dec.{eqb, ltb}
use lib.ListN.{length, get_or, take, drop, take-append-drop, length-take}
use lib.Seq.{drop-cons, take_at, drop_at, take-suc}
use borrow.Author.Tests.{ltb-true, ltb-false, eqb-true}
use Rattle.std.proofs.Common.{get_or-take, zero-add, append-nil, length-append}
use denote.Ref.{Bor}
use denote.Param.Members.{Mut}
use Rattle.std.specs.Prelude.{Option, MatchOption}
use Rattle.std.specs.Fn.{ComputesKey, CalledAt}
use Rattle.std.specs.List.{IsFirstMatchOrLen, enumerate_from}
use Rattle.std.proofs.lemmas.List.FromFn.{length-enumerate_from, get_or-enumerate_from}
use Rattle.std.specs.declared.slice.SplitInclusive.{SplitInclusive}
use Rattle.std.specs.Slice.Iter.{split_inclusive_rest, split_inclusive_callee}
use Rattle.std.proofs.lemmas.Fn.{always_returns_same}
use Rattle.std.proofs.lemmas.Iterator.{YieldsList}
use Rattle.std.proofs.lemmas.Iterator.Splits.{YieldsList-from_shown_while}
use Rattle.std.proofs.lemmas.List.{nil_from_length}
use Rattle.text.specs.Parts.{Text, has, line_feed, lines}
use Rattle.std.proofs.lemmas.List.{nil_from_length}
use Rattle.text.specs.PartsLaws.{lines_joined, lines_last}

-- a text that has no c at any place
has_none : (c : ℕ) (t : Text) → ((k : ℕ) → k < length t → eqb (get_or t k 0) c ≡ false) → has c t ≡ false
unfolding has
has_none c [] h = refl
has_none c (x ∷ t) h = rw (h 0 (omega arith)) (has_none c t (λ k l. h (suc k) (omega arith)))

last : (t : Text) → (length t ≡ 0 → ⊥) → has line_feed t ≡ false → lines t ≡ t ∷ []
last [] h q = absurd (h refl)
last (y ∷ t) h q = lines_last y t q

-- the first line, where i is the place of the first line feed or the length
first : (r x rest : Text) (i : ℕ) → r ≡ x ++ rest → length x ≡ min (i + 1) (length r) → IsFirstMatchOrLen (λ b. eqb b line_feed) r i → 0 < length r
    → lines r ≡ x ∷ lines rest
unfolding lines
first r x rest i e l m some = go (ltb i (length r)) refl
  where
    front : (k : ℕ) → k < length (take i r) → eqb (get_or (take i r) k 0) line_feed ≡ false
    front k h = rw (get_or-take i r k 0 (omega (arith, length-take i r))) (m.0 k 0 (omega arith) (omega (arith, length-take i r)))

    go : (b : Bool) → ltb i (length r) ≡ b → lines r ≡ x ∷ lines rest
    go true t =
        let h = ltb-true i (length r) t in
        let at : get_or r i 0 ≡ line_feed = eqb-true (get_or r i 0) line_feed (m.1 h 0) in
        let line : take i r ++ line_feed ∷ [] ≡ x = ap (λ (b : ℕ). take i r ++ b ∷ []) (sym at) ∙ (sym (take-suc r i 0 h) ∙ (ap (take (suc i)) e ∙ take_at x rest (suc i) (omega arith))) in
        let behind : drop (suc i) r ≡ rest = ap (drop (suc i)) e ∙ drop_at x rest (suc i) (omega arith) in
        let whole : r ≡ take i r ++ line_feed ∷ rest = sym (take-append-drop i r) ∙ ap (λ (t : Text). take i r ++ t) (drop-cons r i 0 h ∙ rw (at, behind) refl) in
        ap lines whole ∙ (lines_joined (take i r) rest (has_none line_feed (take i r) front) ∙ ap (λ (t : Text). t ∷ lines rest) line)
    go false t =
        let h = ltb-false i (length r) t in
        let none_there : has line_feed r ≡ false = has_none line_feed r (λ k l. m.0 k 0 (omega arith) (omega arith)) in
        let empty : length rest ≡ 0 = omega (arith, ap length e, length-append x rest) in
        let over : rest ≡ [] = nil_from_length rest empty in
        let same : r ≡ x = e ∙ (ap (λ (t : Text). x ++ t) over ∙ append-nil x) in
        last r (λ z. omega (arith, z)) none_there ∙ rw (over) (ap (λ (t : Text). t ∷ []) same)

-- THE LINES, where the closure answers whether a byte is a line feed
abbrev steps : {F : Type 0} → Mut F (Bor ℕ × Unit {0}) Bool → SplitInclusive ℕ F → Option (Bor Text) → SplitInclusive ℕ F → Type 0
steps g s r t = MatchOption r ((length (split_inclusive_rest s) ≡ 0) × (t ≡ s))
    (λ x. (split_inclusive_rest s ≡ x.now ++ split_inclusive_rest t)
    × ((i : ℕ) × (length x.now ≡ min (i + 1) (length (split_inclusive_rest s)))
    × ((p : ℕ → Bool) → ComputesKey g p (split_inclusive_callee s) → ComputesKey g p (split_inclusive_callee t) × IsFirstMatchOrLen p (split_inclusive_rest s) i))
    × (0 < length (split_inclusive_rest s)))

pub YieldsList-from_split_inclusive : {F : Type 0} {s : SplitInclusive ℕ F} (g : Mut F (Bor ℕ × Unit {0}) Bool) {f : F} (t : Text) → split_inclusive_rest s ≡ t → split_inclusive_callee s ≡ f
    → ((x : ℕ) (b : Bool) (q : F) → CalledAt g f x b q → (q ≡ f) × (b ≡ eqb x line_feed)) → YieldsList (steps g) (λ x. x.now) s (lines t)
unfolding lines
YieldsList-from_split_inclusive {s = s} g {f} t rest closure tests =
    let p = λ (b : ℕ). eqb b line_feed in
    subst (YieldsList (steps g) (λ x. x.now) s) (λ i. lines (rest i))
    (YieldsList-from_shown_while (steps g) (λ x. x.now) (λ u. lines (split_inclusive_rest u)) (λ u. ComputesKey g p (split_inclusive_callee u))
    (λ u v h k. ap (λ (r : Text). length (lines r)) (nil_from_length _ k.0))
    (λ u x v h k. ((k.1.2 p h).0, first _ x.now _ k.1.0 k.0 k.1.1 (k.1.2 p h).1 k.2))
    s (subst (ComputesKey g p) (sym closure) (always_returns_same g (λ a r. r ≡ p a.0.now) f (λ a r q k. let m = tests a.0.now r q (record { shown = a.0; shows = refl; called = k }) in (m.1, m.0)))))

-- a line of them and its number from 0, as a loop over `enumerate` has them
pub numbered : (ls : List Text) (i n : ℕ) (l : Text) → (i < length (enumerate_from 0 ls)) × ((n, l) ≡ get_or (enumerate_from 0 ls) i (n, l)) → (i < length ls) × (n ≡ i) × (l ≡ get_or ls i l)
numbered ls i n l h =
    let k : i < length ls = omega (arith, h.0, length-enumerate_from 0 ls) in
    let e = h.1 ∙ get_or-enumerate_from 0 ls i (n, l) k in
    (k, ap (λ (p : ℕ × Text). p.0) e ∙ zero-add i, ap (λ (p : ℕ × Text). p.1) e)

-- A text put by a writer into its buffer, and the laws by which a text is put piece by piece. Assumes nothing.
use Rattle.std.specs.Prelude.{◌≡◌, refl, Bool, true, false, List, [], ◌∷◌, ◌++◌, ℕ, suc, ◌+◌, ◌-◌, ◌^◌, ◌≤◌, ◌<◌, leb, length, min, max, drop, set}
use Rattle.std.proofs.Common.{ap, sym, ◌∙◌, zero-add, arith, length-append, leb-true, leb-false}
use Rattle.std.specs.Borrow.{MutBor}
use Rattle.std.proofs.lemmas.List.Edits.{sets, sets-eq}
use Rattle.std.proofs.Math.Seq.{length-sets, set_out}
use Rattle.machine.specs.Runs.{laid}
use Rattle.text.specs.declared.putting.Writer.{Writer}

-- a writer over a lent buffer that has put nothing
pub record Begun (buffer : MutBor (List ℕ)) (w : Writer) : Type 0 where
  pub same : w.buffer.ghost_name ≡ buffer.ghost_name
  pub lent : w.buffer.now ≡ buffer.now
  pub place : w.at ≡ 0

-- a count grows by a length, up to the highest word
abbrev pub counted : (at n : ℕ) → ℕ
counted at n = max at (min (at + n) (2 ^ 64 - 1))

-- the text stands in the buffer behind what was put before, all other bytes as they were; what would stand past the end is cut off and yet counted
pub record Put (text : List ℕ) (before after : Writer) : Type 0 where
  pub same : after.buffer.ghost_name ≡ before.buffer.ghost_name
  pub room : length before.buffer.now < 2 ^ 64
  pub lent : after.buffer.now ≡ sets before.buffer.now before.at text
  pub place : after.at ≡ counted before.at (length text)

pub put_nothing : (w : Writer) → length w.buffer.now < 2 ^ 64 → Put [] w w
put_nothing w r = record { same = refl; room = r; lent = refl; place = omega arith }

pub sets_both : (s t b : List ℕ) (at : ℕ) → sets b at (s ++ t) ≡ sets (sets b at s) (at + length s) t
sets_both [] t b at =
    let e : at ≡ at + 0 = omega arith in
    ap (λ (i : ℕ). sets b i t) e
sets_both (x ∷ s) t b at =
    let e : suc at + length s ≡ at + suc (length s) = omega arith in
    sets_both s t (set b at x) (suc at) ∙ ap (λ (i : ℕ). sets (sets (set b at x) (suc at) s) i t) e

-- past the end nothing is set, and a count at the highest word is past it
pub sets_past : (t b : List ℕ) (at : ℕ) → length b ≤ at → sets b at t ≡ b
sets_past [] b at h = refl
sets_past (x ∷ t) b at h = rw (set_out b at x h) (sets_past t b (suc at) (omega arith))

sets_counted : (t b : List ℕ) (at n : ℕ) → length b < 2 ^ 64 → sets b (counted at n) t ≡ sets b (at + n) t
sets_counted t b at n h = go (leb (at + n) (2 ^ 64 - 1)) refl
  where
    go : (x : Bool) → leb (at + n) (2 ^ 64 - 1) ≡ x → sets b (counted at n) t ≡ sets b (at + n) t
    go true e = ap (λ (i : ℕ). sets b i t) (omega (arith, leb-true (at + n) (2 ^ 64 - 1) e))
    go false e =
        let l = leb-false (at + n) (2 ^ 64 - 1) e in
        sets_past t b (counted at n) (omega arith) ∙ sym (sets_past t b (at + n) (omega arith))

-- one text behind another
pub put_both : {s t : List ℕ} {a b c : Writer} → Put s a b → Put t b c → Put (s ++ t) a c
put_both {s} {t} {a} {b} {c} p q =
    record {
      same = q.same ∙ p.same;
      room = p.room;
      lent =
          q.lent
          ∙ (ap (λ (l : List ℕ). sets l b.at t) p.lent
          ∙ (ap (λ (i : ℕ). sets (sets a.buffer.now a.at s) i t) p.place
          ∙ (sets_counted t (sets a.buffer.now a.at s) a.at (length s) (rw length-sets p.room) ∙ sym (sets_both s t a.buffer.now a.at))));
      place = omega (arith, length-append s t, p.place, q.place);
    }

pub put_length : {t : List ℕ} {a b : Writer} → Put t a b → length b.buffer.now ≡ length a.buffer.now
put_length {t} {a} p = ap length p.lent ∙ length-sets a.buffer.now a.at t

-- a byte for which the buffer has no place is counted alone, and a text put there leaves the buffer as it was
pub put_past : (x : ℕ) (w : Writer) → length w.buffer.now < 2 ^ 64 → length w.buffer.now ≤ w.at → Put (x ∷ []) w (record { buffer = w.buffer; at = counted w.at 1 })
put_past x w r h = record { same = refl; room = r; lent = sym (set_out w.buffer.now w.at x h); place = refl }

pub put_past_keeps : {t : List ℕ} {a b : Writer} → Put t a b → length a.buffer.now ≤ a.at → b.buffer.now ≡ a.buffer.now
put_past_keeps {t} {a} p h = p.lent ∙ sets_past t a.buffer.now a.at h

-- AT THE FRONT
-- the length of a text that fits, and the buffer afterwards: the text, and then the rest as it was
abbrev pub written : List ℕ → List ℕ → ℕ × List ℕ
written text before = (length text, text ++ drop (length text) before)

pub put_front : {t : List ℕ} {b : MutBor (List ℕ)} {v w : Writer} → Begun b v → Put t v w → length t ≤ length b.now
    → ◌≡◌ {A = ℕ × List ℕ} (w.at, w.buffer.now) (written t b.now)
put_front {t} {b} {v} {w} o p h =
    let r : length b.now < 2 ^ 64 = omega (arith, p.room, ap length o.lent) in
    let n : w.at ≡ length t = omega (arith, p.place, o.place) in
    let e : w.buffer.now ≡ t ++ drop (length t) b.now = p.lent
    ∙ (ap (λ (l : List ℕ). sets l v.at t) o.lent
    ∙ (ap (λ (i : ℕ). sets b.now i t) o.place
    ∙ (sets-eq t b.now 0 (omega arith) ∙ ap (λ (i : ℕ). t ++ drop i b.now) (zero-add (length t))))) in
    cc

-- so many bytes the buffer has
pub written_within : (t a b : List ℕ) (n : ℕ) → ◌≡◌ {A = ℕ × List ℕ} (n, b) (written t a) → n ≤ length b
written_within t a b n e =
    let l : length b ≡ length (t ++ drop (length t) a) = ap (λ (x : ℕ × List ℕ). length x.1) e in
    let m : n ≡ length t = ap (λ (x : ℕ × List ℕ). x.0) e in
    omega (arith, length-append t (drop (length t) a))

-- a text whose length is a word is counted, whether or not it fits
pub put_counted : {t : List ℕ} {b : MutBor (List ℕ)} {v w : Writer} → Begun b v → Put t v w → length t < 2 ^ 64 → w.at ≡ length t
put_counted o p h = omega (arith, p.place, o.place)

-- what `laid` makes of a log that is lent, a writer makes of its buffer, and the other way round
sets_behind : (x : ℕ) (t b : List ℕ) (at : ℕ) → sets (x ∷ b) (suc at) t ≡ x ∷ sets b at t
sets_behind x [] b at = refl
sets_behind x (y ∷ t) b at = sets_behind x t (set b at y) (suc at)

sets_none : (t : List ℕ) (at : ℕ) → sets [] at t ≡ []
sets_none [] at = refl
sets_none (x ∷ t) at = sets_none t (suc at)

pub sets_laid : (t b : List ℕ) → sets b 0 t ≡ laid t b
unfolding laid
sets_laid [] b = refl
sets_laid (x ∷ t) [] = sets_none t 1
sets_laid (x ∷ t) (y ∷ b) = sets_behind x t b 0 ∙ ap (λ (l : List ℕ). x ∷ l) (sets_laid t b)

pub put_laid : {t : List ℕ} {b : MutBor (List ℕ)} {v w : Writer} → Begun b v → Put t v w → w.buffer.now ≡ laid t b.now
put_laid {t} {b} {v} {w} o p =
    p.lent ∙ (ap (λ (l : List ℕ). sets l v.at t) o.lent ∙ (ap (λ (i : ℕ). sets b.now i t) o.place ∙ sets_laid t b.now))

pub laid_put : (t : List ℕ) {b : MutBor (List ℕ)} {v w : Writer} → Begun b v → length b.now < 2 ^ 64 → length t < 2 ^ 64 → w.buffer.ghost_name ≡ b.ghost_name
    → w.buffer.now ≡ laid t b.now → w.at ≡ length t → Put t v w
laid_put t {b} {v} {w} o r h name now count =
    record {
      same = name ∙ sym o.same;
      room = omega (arith, r, ap length o.lent);
      lent = now ∙ (sym (sets_laid t b.now) ∙ (ap (λ (l : List ℕ). sets l 0 t) (sym o.lent) ∙ ap (λ (i : ℕ). sets v.buffer.now i t) (sym o.place)));
      place = omega (arith, count, o.place);
    }

-- The same of lists: a text put at a place of a buffer, of any length and at any place. A writer's is such a one where its count is not cut off. Assumes nothing.
use Rattle.std.specs.Prelude.{◌≡◌, refl, List, [], ◌∷◌, ◌++◌, ℕ, ◌+◌, ◌^◌, ◌≤◌, ◌<◌, length, drop}
use Rattle.std.proofs.Common.{ap, sym, ◌∙◌, zero-add, arith, length-append}
use Rattle.std.proofs.lemmas.List.Edits.{sets, sets-eq}
use Rattle.std.proofs.Math.Seq.{length-sets, set_out}
use Rattle.machine.specs.Runs.{laid}
use Rattle.text.specs.declared.putting.Writer.{Writer}
use Rattle.text.specs.Put.{Put, sets_both, sets_laid, written}

-- the text stands in the buffer from a place on, all other bytes as they were; what would stand past the end is cut off
-- the next place is the one behind the text, whether or not the buffer has it
pub record PutAt (text : List ℕ) (at : ℕ) (before : List ℕ) (next : ℕ) (after : List ℕ) : Type 0 where
  pub place : next ≡ at + length text
  pub lent : after ≡ sets before at text

pub put_nothing : (at : ℕ) (b : List ℕ) → PutAt [] at b at b
put_nothing at b = record { place = omega arith; lent = refl }

-- one text behind another
pub put_both : {s t : List ℕ} {at next last : ℕ} {a b c : List ℕ} → PutAt s at a next b → PutAt t next b last c → PutAt (s ++ t) at a last c
put_both {s} {t} {at} {next} {last} {a} {b} {c} p q =
    record {
      place = omega (arith, length-append s t, p.place, q.place);
      lent =
          q.lent
          ∙ (ap (λ (l : List ℕ). sets l next t) p.lent
          ∙ (ap (λ (i : ℕ). sets (sets a at s) i t) p.place ∙ sym (sets_both s t a at)));
    }

pub put_length : {t : List ℕ} {at next : ℕ} {a b : List ℕ} → PutAt t at a next b → length b ≡ length a
put_length {t} {at} {next} {a} p = ap length p.lent ∙ length-sets a at t

-- a byte for which the buffer has no place
pub put_past : (x at : ℕ) (b : List ℕ) → length b ≤ at → PutAt (x ∷ []) at b (at + 1) b
put_past x at b h = record { place = refl; lent = sym (set_out b at x h) }

pub put_front : {t a b : List ℕ} {next : ℕ} → PutAt t 0 a next b → length t ≤ length a → ◌≡◌ {A = ℕ × List ℕ} (next, b) (written t a)
put_front {t} {a} {b} {next} p h =
    let n : next ≡ length t = p.place ∙ zero-add (length t) in
    let e : b ≡ t ++ drop (length t) a = p.lent ∙ (sets-eq t a 0 (omega arith) ∙ ap (λ (i : ℕ). t ++ drop i a) (zero-add (length t))) in
    cc

-- what `laid` makes of a log that is lent, it makes of a buffer
pub laid_put : (t b : List ℕ) → PutAt t 0 b (length t) (laid t b)
laid_put t b = record { place = sym (zero-add (length t)); lent = sym (sets_laid t b) }

-- what a writer puts, where the length so far stays below 2^64
pub put_at : {t : List ℕ} {a b : Writer} → Put t a b → a.at + length t < 2 ^ 64 → PutAt t a.at a.buffer.now b.at b.buffer.now
put_at p h = record { place = omega (arith, p.place); lent = p.lent }

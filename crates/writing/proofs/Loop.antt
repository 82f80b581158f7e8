-- Line by line: what stands in the buffer, and what is left to write. Assumes nothing.
use mathlib.Core.Path.{◌≡◌, refl, ap, sym, ◌∙◌}
use mathlib.Core.Bool.{Bool, false}
use mathlib.Core.List.{[], ◌∷◌, ◌++◌, append_assoc, append-nil}
use Prim.Native.Nat.{ℕ, zero, suc, ◌+◌, ◌-◌, ◌*◌, ◌^◌, ◌≤◌, ◌<◌}
use Rattle.std.proofs.Common.{max}
use native.Mathlib.Omega.{arith}
use lib.ListN.{length, take, drop, length-append}
use borrow.Author.Tests.{lt-ltb, le-ltb}
use Rattle.machine.specs.Memory.{Memory}
use Rattle.machine.specs.Fetch.{fetch}
use Rattle.listing.specs.Grammar.{line, written}
use Rattle.text.specs.Parts.{Text, line_feed}
use Rattle.text.specs.declared.putting.Writer.{Writer}
use Rattle.text.specs.Put.{Put, put_both, put_nothing}
use Rattle.writing.specs.Back.{line_bytes_lem}
use Rattle.writing.specs.Text.{noted, line_of, whole, crosses, line_bytes, line_at, lines_from, listing_of}
use Rattle.writing.specs.There.{there_at}
use Rattle.writing.proofs.There.{noted_there, whole_starts}

-- the text is what is done and the lines that are left; no line is longer than 90 bytes
pub record SoFar (m : Memory) (start end at : ℕ) (cut : Bool) (w₀ w : Writer) : Type 0 where
  pub done : Text
  pub left : ℕ
  pub put : Put done w₀ w
  pub enough : end ≤ at + left
  pub text : listing_of m start end ≡ done ++ written (lines_from left cut m at end)
  pub after : start ≤ at
  pub within : at ≤ max start end
  pub short : length done ≤ 90 * (at - start)

pub begins : (m : Memory) (start end : ℕ) (w : Writer) → length w.buffer.now < 2 ^ 64 → SoFar m start end start false w w
unfolding listing_of
begins m start end w h =
    record { done = []; left = end - start; put = put_nothing w h; enough = omega arith; text = refl; after = omega arith; within = omega arith; short = omega arith }

one_line : (m : Memory) (end at left : ℕ) (cut : Bool) → at < end → end ≤ at + left
    → (k : ℕ) × (end ≤ at + line_bytes cut m at end + k → end ≤ at + line_bytes cut m at end + k) × (left ≡ suc k)
one_line m end at zero cut h e = absurd (omega arith)
one_line m end at (suc k) cut h e = (k, (λ x. x), refl)

first_line_lem : (m : Memory) (end at k : ℕ) (cut : Bool) → at < end → written (lines_from (suc k) cut m at end)
    ≡ (line (line_at cut m at end) ++ line_feed ∷ []) ++ written (lines_from k (crosses cut m at end) m (at + line_bytes cut m at end) end)
unfolding lines_from written
first_line_lem m end at k cut h = rw (lt-ltb at end h) (sym (append_assoc (line (line_at cut m at end)) (line_feed ∷ []) _))

no_line : (m : Memory) (end at left : ℕ) (cut : Bool) → end ≤ at → written (lines_from left cut m at end) ≡ []
unfolding lines_from written
no_line m end at zero cut h = refl
no_line m end at (suc k) cut h = rw (le-ltb at end h)

module _ (m : Memory) (start end : ℕ) {w₀ w : Writer} where
  -- A TURN, by what the code has at hand
  pub turn : {w' : Writer} (at n : ℕ) (one cut cut' : Bool) → SoFar m start end at cut w₀ w → at < end → one ≡ whole cut m at end → n ≡ line_bytes cut m at end
      → cut' ≡ crosses cut m at end → Put (line (line_of at (take n (drop at m.bytes)) (noted one (there_at m at))) ++ line_feed ∷ []) w w'
      → length (line (line_of at (take n (drop at m.bytes)) (noted one (there_at m at))) ++ line_feed ∷ []) ≤ 90
      → SoFar m start end (at + n) cut' w₀ w'
  unfolding line_at
  turn at n one cut cut' s l whole_is e c x short =
      let shown : noted one (there_at m at) ≡ noted one (fetch m at) = noted_there m at one (whole_starts cut m at end one whole_is) in
      let q : line_of at (take n (drop at m.bytes)) (noted one (there_at m at)) ≡ line_at cut m at end = cc in
      let o = one_line m end at s.left cut l s.enough in
      let b = line_bytes_lem cut m at end l in
      let long = rw q at short in
      record {
        done = s.done ++ (line (line_at cut m at end) ++ line_feed ∷ []);
        left = o.0;
        put = put_both s.put (rw q at x);
        enough = omega (arith, o.2, s.enough);
        text =
            s.text
            ∙ (ap (λ (k : ℕ). s.done ++ written (lines_from k cut m at end)) o.2
            ∙ (ap (λ (t : Text). s.done ++ t) (first_line_lem m end at o.0 cut l)
            ∙ (sym (append_assoc s.done (line (line_at cut m at end) ++ line_feed ∷ []) _)
            ∙ rw (e, c) refl)));
        after = omega (arith, s.after);
        within = omega (arith, b.2, e);
        short = simp length-append (omega (arith, s.short, s.after, b, simp length-append at long));
      }

  all_done : (at : ℕ) (cut : Bool) → (s : SoFar m start end at cut w₀ w) → end ≤ at → s.done ≡ listing_of m start end
  all_done at cut s h = sym (s.text ∙ (ap (λ (t : Text). s.done ++ t) (no_line m end at s.left cut h) ∙ append-nil s.done))

  pub ends : (at : ℕ) (cut : Bool) → SoFar m start end at cut w₀ w → end ≤ at → Put (listing_of m start end) w₀ w
  ends at cut s h = rw (← all_done at cut s h) s.put

  pub stays_short : (at : ℕ) (cut : Bool) → SoFar m start end at cut w₀ w → end ≤ at → length (listing_of m start end) ≤ 90 * (end - start)
  stays_short at cut s h = rw (← all_done at cut s h) (omega (arith, s.short, s.within, s.after))

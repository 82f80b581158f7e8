-- Blocks of words: one word more. Assumes nothing.
use mathlib.Core.Path.{◌≡◌, refl, ap, ◌∙◌}
use mathlib.Core.List.{List, [], ◌∷◌, ◌++◌}
use Prim.Native.Nat.{ℕ, zero, suc, ◌+◌, ◌*◌, ◌≤◌, ◌<◌}
use native.Mathlib.Omega.{arith}
use native.Mathlib.Numerals.{add-one}
use lib.ListN.{length, take, get_or}
use lib.Seq.{take-suc, length-take-le}
use borrow.Author.Tests.{lt-ltb}
use Rattle.std.proofs.lemmas.List.{take_all}
use Rattle.std.specs.Array.{IsFromFnResultFrom}
use denote.Param.Members.{Mut, Called}
use Rattle.machine.specs.Words.{number, placed}
use Rattle.machine.specs.Memory.{Memory, lent, inside, load, store}
use Rattle.laws.specs.Memory.{length_placed}
use Rattle.block.specs.Block.{words_in, with_words}

with_more : (ws : List ℕ) (w : ℕ) (b : List ℕ) (a : ℕ) → with_words (ws ++ w ∷ []) b a ≡ placed 8 (with_words ws b a) (a + 8 * length ws) w
unfolding with_words
with_more [] w b a =
    let e : a ≡ a + 8 * 0 = omega arith in
    ap (λ (x : ℕ). placed 8 b x w) e
with_more (x ∷ ws) w b a =
    let e : a + 8 + 8 * length ws ≡ a + 8 * suc (length ws) = omega arith in
    with_more ws w (placed 8 b a x) (a + 8) ∙ ap (λ (y : ℕ). placed 8 (with_words ws (placed 8 b a x) (a + 8)) y w) e

pub with_length : (ws b : List ℕ) (a : ℕ) → length (with_words ws b a) ≡ length b
unfolding with_words
with_length [] b a = refl
with_length (w ∷ ws) b a = with_length ws (placed 8 b a w) (a + 8) ∙ length_placed 8 b a w

-- a word that is inside is loaded and stored as its bytes
load_there : (b : List ℕ) (a v : ℕ) → a + 8 ≤ length b → v ≡ load (lent b) a → v ≡ number 8 b a
unfolding load inside
load_there b a v h e = cc (lt-ltb (a + 7) (length b) (omega arith))

store_there : (b b' : List ℕ) (a v : ℕ) → a + 8 ≤ length b → lent b' ≡ store (lent b) a v → b' ≡ placed 8 b a v
unfolding store inside
store_there b b' a v h e =
    let there = lt-ltb (a + 7) (length b) (omega arith) in
    ap (λ (m : Memory). m.bytes) (rw there at e)

-- what calls at each number from i on gave, where a call keeps P of the closure and gives R
module _ {F : Type 0} (g : Mut F (ℕ × Unit {0}) ℕ) (P : F → Type 0) (R : ℕ → ℕ → Type 0)
    (called : (f : F) (i y : ℕ) (q : F) → P f → Called g f (i, tt) y q → R i y × P q) where
  pub each_given : (n i : ℕ) (f : F) (ys : List ℕ) → P f → IsFromFnResultFrom g f ys i n → (k : ℕ) → k < n → R (i + k) (get_or ys (i + k) 0)
  each_given zero i f ys p e k h = absurd (omega arith)
  each_given (suc n) i f ys p e zero h =
      let now = called f i e.1 e.0 p e.3 in
      let z : i + 0 ≡ i = omega arith in
      rw (z, e.2.1 0) now.0
  each_given (suc n) i f ys p e (suc k) h =
      let now = called f i e.1 e.0 p e.3 in
      let z : i + 1 + k ≡ i + suc k = omega arith in
      rw z at (each_given n (i + 1) e.0 ys now.1 e.4 k (omega arith))

-- the words that are loaded at each eighth byte
pub words_are : (n a : ℕ) (ws b : List ℕ) → length ws ≡ n → a + 8 * n ≤ length b → ((k : ℕ) → k < n → get_or ws k 0 ≡ load (lent b) (a + 8 * k)) → ws ≡ words_in n b a
unfolding words_in
words_are zero a [] b e h g = refl
words_are zero a (w ∷ ws) b e h g = absurd (omega arith)
words_are (suc n) a [] b e h g = absurd (omega arith)
words_are (suc n) a (w ∷ ws) b e h g =
    let z : a + 8 * 0 ≡ a = omega arith in
    let first = load_there b a w (omega arith) (rw z at (g 0 (omega arith))) in
    rw (← first)
    (ap (λ (l : List ℕ). w ∷ l)
    (words_are n (a + 8) ws b (omega arith) (omega arith)
    (λ k l.
    let s : a + 8 * suc k ≡ a + 8 + 8 * k = omega arith in
    rw s at (g (suc k) (omega arith)))))

-- the first k words have been written, and one more
pub write_more : (b₀ words b b' : List ℕ) (k : ℕ) → b ≡ with_words (take k words) b₀ 0 → k < length words → 8 * length words ≤ length b₀
    → lent b' ≡ store (lent b) (8 * k) (get_or words k 0) → b' ≡ with_words (take (k + 1) words) b₀ 0
write_more b₀ words b b' k h lt room put =
    let long : length b ≡ length b₀ = ap length h ∙ with_length (take k words) b₀ 0 in
    let e = store_there b b' (8 * k) (get_or words k 0) (omega arith) put in
    let n = length-take-le k words (omega arith) in
    let z : 8 * k ≡ 0 + 8 * length (take k words) = omega arith in
    rw (add-one, take-suc words k 0 lt, with_more, ← z, ← h) e

pub write_all : (b₀ words b : List ℕ) (k : ℕ) → b ≡ with_words (take k words) b₀ 0 → length words ≤ k → b ≡ with_words words b₀ 0
write_all b₀ words b k h q = rw (take_all k words q) at h

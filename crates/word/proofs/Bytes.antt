-- Words in bytes: that the library's eight bytes of a word are the definitions'. Assumes nothing.
use Rattle.std.proofs.Common.{Fits, w8, ◌≡◌, ◌-◌, ◌⊎◌, inl, inr, Bor, Option, None, Some, false, lt-ltb, le-ltb, take-take, ℕ, zero, suc, ◌+◌, ◌/◌, ◌%◌, ◌^◌, ◌<◌, ◌≤◌, true, List, length, take, drop, get_or, set, refl, ap, ◌∙◌, arith, ltb-true, append_assoc, length-set}
use Rattle.std.proofs.Math.Nat.{div-div-eq-div-mul, div-one, pow-suc, pow-succ'}
use Rattle.std.proofs.Math.Seq.{take-suc-set}
use Rattle.std.proofs.lemmas.List.{get_or-take, get_or-drop, take-append-drop, drop-set-lt, drop-drop}
use borrow.Rule.Slice.PartMut.{put_mid}
use Rattle.std.specs.Array.{IsFirstChunk}
use Rattle.std.specs.List.{slice_range}
use Rattle.std.specs.Option.{MatchOption}
use Rattle.std.specs.Int.{w64, from_le_bytes, to_le_bytes, bytes_low_first, byte_at}
use Rattle.machine.specs.Memory.{lent, inside, store}
use Rattle.machine.specs.Words.{number, placed}

-- a word inside of what is lent has its eight bytes there
pub inside_room : (b : List ℕ) (a : ℕ) → inside (lent b) a ≡ true → a + 8 ≤ length b
unfolding inside
inside_room b a e = omega (arith, ltb-true (a + 7) (length b) e)

-- a store inside of what is lent places the word
pub store_inside : (b : List ℕ) (a : ℕ) (n : List ℕ) (v : ℕ) → inside (lent b) a ≡ true → n ≡ placed 8 b a v → lent n ≡ store (lent b) a v
unfolding store
store_inside b a n v e p = rw (e, p)

-- what is left from a on: nothing, or a part of which the first eight bytes are the word's, if it has as many
pub none_left : (b : List ℕ) (a : ℕ) → (length b < a) ⊎ (length b < length b) → inside (lent b) a ≡ false
unfolding inside
none_left b a (inl h) = le-ltb (a + 7) (length b) (omega arith)
none_left b a (inr h) = absurd (omega arith)

pub some_left : (b : List ℕ) (a : ℕ) (rest : List ℕ) (r : Option (Bor (List ℕ))) → rest ≡ slice_range b a (length b) → length rest + a ≡ length b
    → MatchOption r (length rest < 8) (λ y. IsFirstChunk rest y.now 8)
    → MatchOption r (inside (lent b) a ≡ false) (λ y. (inside (lent b) a ≡ true) × (y.now ≡ take 8 (drop a b)))
unfolding inside
some_left b a rest None e l m = le-ltb (a + 7) (length b) (omega arith)
some_left b a rest (Some y) e l m =
    let enough = m.enough in
    (lt-ltb (a + 7) (length b) (omega arith), m.same ∙ (ap (take 8) e ∙ take-take 8 (length b - a) (drop a b) (omega arith)))

pub number_is : (b : List ℕ) (a : ℕ) → from_le_bytes w64 (take 8 (drop a b)) ≡ number 8 b a
unfolding number
number_is b a =
    rw (
      byte 0 a (omega arith) (omega arith),
      byte 1 (a + 1) (omega arith) (omega arith),
      byte 2 (a + 1 + 1) (omega arith) (omega arith),
      byte 3 (a + 1 + 1 + 1) (omega arith) (omega arith),
      byte 4 (a + 1 + 1 + 1 + 1) (omega arith) (omega arith),
      byte 5 (a + 1 + 1 + 1 + 1 + 1) (omega arith) (omega arith),
      byte 6 (a + 1 + 1 + 1 + 1 + 1 + 1) (omega arith) (omega arith),
      byte 7 (a + 1 + 1 + 1 + 1 + 1 + 1 + 1) (omega arith) (omega arith),
    )
    (omega arith)
  where
    byte : (i j : ℕ) → i < 8 → a + i ≡ j → get_or (take 8 (drop a b)) i 0 ≡ get_or b j 0
    byte i j h e = get_or-take 8 (drop a b) i 0 h ∙ (get_or-drop a b i 0 ∙ ap (λ (x : ℕ). get_or b x 0) e)

-- byte i, of what is left when i bytes have been placed
first_byte : (i v : ℕ) → v / 256 ^ i % 256 ≡ byte_at i v
first_byte zero v = ap (λ (x : ℕ). x % 256) (div-one v)
first_byte (suc i) v = refl

-- k bytes from byte i on, the lower ones placed before
bytes_placed : (k i : ℕ) (m : List ℕ) (a v : ℕ) → a + k ≤ length m → put_mid a k m (bytes_low_first i k v) ≡ placed k m a (v / 256 ^ i)
unfolding placed
bytes_placed zero i m a v h = take-append-drop a m
bytes_placed (suc k) i m a v h =
    let y = v / 256 ^ i % 256 in
    let next : v / 256 ^ i / 256 ≡ v / 256 ^ suc i = rw pow-suc (div-div-eq-div-mul v (256 ^ i) 256) in
    let rest = bytes_placed k (suc i) (set m a y) (a + 1) v (simp length-set (omega arith)) in
    let front = take-suc-set m a y (omega arith) in
    let p : a + 1 ≡ suc a = omega arith in
    let q : suc a + k ≡ a + suc k = omega arith in
    rw (next, ← rest, drop-set-lt (a + 1) m a y (omega arith), drop-drop, drop-drop, p, front, append_assoc, first_byte i v, q)

-- a part of eight bytes written over by the bytes of a word
pub placed_is : (b : List ℕ) (a k v : ℕ) → k ≡ 8 → a + 8 ≤ length b → put_mid a k b (to_le_bytes w64 v) ≡ placed 8 b a v
placed_is b a k v e h = rw e (rw (div-one v) at (bytes_placed 8 0 b a v h))

-- k bytes hold a number below 256 ^ k
pub number_below : (m : List ℕ) → ((i : ℕ) → Fits w8 (get_or m i 0)) → (k a : ℕ) → number k m a < 256 ^ k
unfolding number
number_below m bytes zero a = omega arith
number_below m bytes (suc k) a = omega (arith, number_below m bytes k (a + 1), bytes a, pow-succ' 256 k)

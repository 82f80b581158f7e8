-- Memory after a store.
use Rattle.std.specs.Prelude.{ℕ, zero, suc, ◌+◌, ◌/◌, ◌%◌, ◌≤◌, Bool, cond, ◌&&◌, List, ◌≡◌, leb, length, set}
use Rattle.std.proofs.Math.Bool.{true, false}
use Rattle.std.proofs.Math.Path.{refl, ap}
use Rattle.std.proofs.Common.{◌∙◌, arith, length-set, get_or-set_other}
use borrow.Author.Tests.{ltb-false, le-leb}
use Rattle.std.proofs.Math.Dec.{ltb}
use Rattle.std.proofs.Math.ListN.{get_or}
use Rattle.machine.specs.Words.{placed}
use Rattle.machine.specs.Memory.{Memory, holding, size, seen_to, code_end, inside, store}

pub length_placed : (k : ℕ) (b : List ℕ) (a v : ℕ) → length (placed k b a v) ≡ length b
unfolding placed
length_placed zero b a v = refl
length_placed (suc k) b a v = length_placed k (set b a (v % 256)) (a + 1) (v / 256) ∙ length-set b a (v % 256)

get_d_placed : (k : ℕ) (b : List ℕ) (a v x : ℕ) → (a ≤ x → a + k ≤ x) → get_or (placed k b a v) x 0 ≡ get_or b x 0
unfolding placed
get_d_placed zero b a v x h = refl
get_d_placed (suc k) b a v x h =
    get_d_placed k (set b a (v % 256)) (a + 1) (v / 256) x (λ q. let z : a + suc k ≤ x = h (omega arith) in omega arith)
    ∙ get_or-set_other b a x (v % 256) 0 (λ e. let z : a + suc k ≤ x = h (omega arith) in omega arith)

module _ (m : Memory) (a v : ℕ) where
  -- a store keeps the size
  pub size_stored : size (store m a v) ≡ size m
  unfolding store
  size_stored = go (inside m a)
    where
      go : (c : Bool) → size (cond c (holding m (placed 8 m.bytes a v)) m) ≡ size m
      go true = length_placed 8 m.bytes a v
      go false = refl

  -- and the window
  pub window_stored : (store m a v).window ≡ m.window
  unfolding store
  window_stored = go (inside m a)
    where
      go : (c : Bool) → (cond c (holding m (placed 8 m.bytes a v)) m).window ≡ m.window
      go true = refl
      go false = refl

  -- and where an instruction's bytes end
  pub code_end_stored : (b : ℕ) → code_end (store m a v) b ≡ code_end m b
  unfolding code_end
  code_end_stored b = ap (λ n. seen_to (store m a v).window n b) size_stored ∙ ap (λ w. seen_to w (size m) b) window_stored

  -- and each byte that is none of its eight
  pub byte_stored : (x : ℕ) → (inside m a && (leb a x && ltb x (a + 8)) ≡ true → ⊥) → get_or (store m a v).bytes x 0 ≡ get_or m.bytes x 0
  unfolding store
  byte_stored x h = go (inside m a) h
    where
      go : (c : Bool) → (c && (leb a x && ltb x (a + 8)) ≡ true → ⊥) → get_or (cond c (holding m (placed 8 m.bytes a v)) m).bytes x 0 ≡ get_or m.bytes x 0
      go false h = refl
      go true h = get_d_placed 8 m.bytes a v x away
        where
          away : a ≤ x → a + 8 ≤ x
          away q = ltb-false x (a + 8) (falsely (ltb x (a + 8)) (λ e. h (cc (e, le-leb a x q))))
            where
              falsely : (b : Bool) → (b ≡ true → ⊥) → b ≡ false
              falsely true k = absurd (k refl)
              falsely false k = refl

-- Runs without logs, one after the other, said once of both engines: "Running a then b cycles equals running a + b .. where none of the three is
-- refused." Assumes nothing.
use Prim.Native.Nat.{ℕ, zero, suc, ◌+◌, ◌<◌}
use Rattle.std.specs.Prelude.{◌≡◌}
use Rattle.std.proofs.Math.Path.{refl, ap}
use Rattle.std.proofs.Common.{sym, ◌∙◌, add-zero, add-suc, arith}

-- so many moves from s
unfoldable pub moved : {S : Type 0} → (S → S) → S → ℕ → S
moved move s zero = s
moved move s (suc n) = move (moved move s n)

moved_add : {S : Type 0} (move : S → S) (s : S) (a b : ℕ) → moved move s (a + b) ≡ moved move (moved move s a) b
unfolding moved
moved_add move s a zero = rw add-zero
moved_add move s a (suc b) = rw (add-suc a b) (ap move (moved_add move s a b))

-- an engine as its caller has it without logs: what goes from one run to the next, record and memory; a step or clock; a run of a budget, with
-- the number of its answer and what it leaves; and that a run which is not refused makes so many moves
pub record Engine : Type 1 where
  pub State : Type 0
  pub move : State → State
  pub run : State → ℕ → ℕ × State
  pub moves : (s : State) (n : ℕ) → (run s n).0 ≡ 0 → (run s n).1 ≡ moved move s n

module _ (e : Engine) where
  pub joined : (s : e.State) (a b : ℕ) → (e.run s a).0 ≡ 0 → (e.run (e.run s a).1 b).0 ≡ 0 → (e.run s (a + b)).0 ≡ 0
      → (e.run s (a + b)).1 ≡ (e.run (e.run s a).1 b).1
  joined s a b f h t =
      let one = e.moves s a f in
      e.moves s (a + b) t ∙ moved_add e.move s a b ∙ ap (λ x. moved e.move x b) (sym one) ∙ sym (e.moves (e.run s a).1 b h)

  -- so many runs of 1, each from where the last one ended
  unfoldable pub ones : e.State → ℕ → e.State
  ones s zero = s
  ones s (suc n) = (e.run (ones s n) 1).1

  ones_move : (s : e.State) (n : ℕ) → ((k : ℕ) → k < n → (e.run (ones s k) 1).0 ≡ 0) → ones s n ≡ moved e.move s n
  unfolding ones moved
  ones_move s zero h = refl
  ones_move s (suc n) h = e.moves (ones s n) 1 (h n (omega arith)) ∙ ap e.move (ones_move s n (λ k q. h k (omega arith)))

  -- where none is refused they are one run
  pub ones_join : (s : e.State) (n : ℕ) → ((k : ℕ) → k < n → (e.run (ones s k) 1).0 ≡ 0) → (e.run s n).0 ≡ 0 → ones s n ≡ (e.run s n).1
  ones_join s n h r = ones_move s n h ∙ sym (e.moves s n r)

-- Accesses do not look at the code window, and it stays as it is: that of a record, and that of the memory beside it.
use Rattle.std.specs.Prelude.{ℕ, zero, suc, ◌≡◌, refl, Bool, true, false, cond}
use Rattle.std.proofs.Common.{ap, sym, ◌∙◌}
use Rattle.machine.specs.declared.Executed.{Executed}
use Rattle.machine.specs.Types.{Window}
use Rattle.machine.specs.Types.{is_bad}
use Rattle.machine.specs.Words.{placed}
use Rattle.machine.specs.Memory.{Memory, holding, through, inside, store}
use Rattle.machine.specs.Stages.{stores, access_address, stored_word, new_memory}
use Rattle.machine.specs.Plain.{Plain, is_stopped, executed, accessed, performed, stopped_by, step, steps}
use Rattle.laws.specs.Memory.{window_stored}

-- what is written is the same through any window
store_through : (w : Window) (m : Memory) (a v : ℕ) → store (through w m) a v ≡ through w (store m a v)
unfolding store inside
store_through w m a v = go (inside m a)
  where
    go : (b : Bool) → cond b (holding (through w m) (placed 8 m.bytes a v)) (through w m) ≡ through w (cond b (holding m (placed 8 m.bytes a v)) m)
    go true = refl
    go false = refl

new_through : (w : Window) (x : Executed) (m : Memory) → new_memory x (through w m) ≡ through w (new_memory x m)
unfolding new_memory
new_through w x m = go (stores x.instruction)
  where
    go : (b : Bool) → cond b (store (through w m) (access_address x) (stored_word x)) (through w m) ≡ through w (cond b (store m (access_address x) (stored_word x)) m)
    go true = store_through w m (access_address x) (stored_word x)
    go false = refl

pub written_through : (w : Window) (x : Executed) (m m' : Memory) → m' ≡ new_memory x m → through w m' ≡ new_memory x (through w m)
written_through w x m m' e = ap (through w) e ∙ sym (new_through w x m)

pub window_kept : (x : Executed) (m : Memory) → (new_memory x m).window ≡ m.window
unfolding new_memory
window_kept x m = go (stores x.instruction)
  where
    go : (b : Bool) → (cond b (store m (access_address x) (stored_word x)) m).window ≡ m.window
    go true = window_stored m (access_address x) (stored_word x)
    go false = refl

-- the memory's, and the record's
step_keeps : (s : Plain) → ((step s).memory.window ≡ s.memory.window) × ((step s).machine.window ≡ s.machine.window)
unfolding step performed stopped_by
step_keeps s = go (is_stopped s) (is_bad (accessed s).status)
  where
    go : (b c : Bool)
        → let t = cond b s (cond c (stopped_by s (accessed s).status) (performed s)) in
        (t.memory.window ≡ s.memory.window) × (t.machine.window ≡ s.machine.window)
    go true c = (refl, refl)
    go false true = (refl, refl)
    go false false = (window_kept (executed s) s.memory, refl)

pub steps_keep : (s : Plain) (n : ℕ) → ((steps s n).memory.window ≡ s.memory.window) × ((steps s n).machine.window ≡ s.machine.window)
unfolding steps
steps_keep s zero = (refl, refl)
steps_keep s (suc n) =
    let one = step_keeps (steps s n) in
    let rest = steps_keep s n in
    (one.0 ∙ rest.0, one.1 ∙ rest.1)

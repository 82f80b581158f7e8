-- Laws of the plain steps: what was logged before plays no part, and steps add up. Assumes nothing.
use Rattle.std.specs.Prelude.{◌≡◌, refl, Bool, true, false, cond, List, [], ◌∷◌, ◌++◌, ℕ, zero, suc, ◌+◌, ◌-◌, ◌≤◌}
use Rattle.std.proofs.Common.{ap, sym, ◌∙◌, append-nil, append_assoc, arith}
use Rattle.machine.specs.declared.Machine.{Machine}
use Rattle.machine.specs.Types.{is_bad}
use Rattle.machine.specs.Memory.{Memory, through}
use Rattle.laws.specs.Window.{steps_keep}
use Rattle.machine.specs.Plain.{Plain, plain_of, is_stopped, fetched, decoded, executed, accessed, performed, stopped_by, step, steps}

-- a state whose log so far is l
abbrev pub behind : List ℕ → Plain → Plain
behind l s = record { machine = s.machine; memory = s.memory; log = l ++ s.log }

-- the state as it is without what it has logged
abbrev pub bare : Plain → Plain
bare s = plain_of s.machine s.memory

pub step_behind : (l : List ℕ) (s : Plain) → step (behind l s) ≡ behind l (step s)
unfolding step is_stopped accessed executed decoded fetched performed stopped_by
step_behind l s = go (is_bad s.machine.status) (is_bad (accessed s).status)
  where
    go : (b c : Bool)
        → cond b (behind l s) (cond c (stopped_by (behind l s) (accessed s).status) (performed (behind l s)))
        ≡ behind l (cond b s (cond c (stopped_by s (accessed s).status) (performed s)))
    go true c = refl
    go false true =
        ap (λ (x : List ℕ). record { machine = (stopped_by s (accessed s).status).machine; memory = s.memory; log = x })
        (append_assoc l s.log (s.machine.address ∷ []))
    go false false =
        ap (λ (x : List ℕ). record { machine = (performed s).machine; memory = (performed s).memory; log = x })
        (append_assoc l s.log (s.machine.address ∷ []))

pub steps_behind : (l : List ℕ) (s : Plain) (n : ℕ) → steps (behind l s) n ≡ behind l (steps s n)
unfolding steps
steps_behind l s zero = refl
steps_behind l s (suc n) = ap step (steps_behind l s n) ∙ step_behind l (steps s n)

-- memory is seen through the record's window
abbrev Seen : Plain → Type 0
Seen s = s.memory.window ≡ s.machine.window

pub seen : (k : Machine) (m : Memory) (n : ℕ) → Seen (steps (plain_of k m) n)
seen k m n =
    let keep = steps_keep (plain_of k m) n in
    keep.0 ∙ sym keep.1

bare_behind : (s : Plain) → Seen s → s ≡ behind s.log (bare s)
bare_behind s h = simp append-nil (ap (λ w. record { machine = s.machine; memory = through w s.memory; log = s.log }) h)

-- a step, by what it does where nothing has been logged
pub step_bare : (s : Plain) → Seen s → step s ≡ behind s.log (step (bare s))
step_bare s h = ap step (bare_behind s h) ∙ step_behind s.log (bare s)

pub steps_add : (s : Plain) (a b : ℕ) → steps s (b + a) ≡ steps (steps s a) b
unfolding steps
steps_add s a zero =
    let e : 0 + a ≡ a = omega arith in
    ap (steps s) e
steps_add s a (suc b) =
    let e : suc b + a ≡ suc (b + a) = omega arith in
    ap (steps s) e ∙ ap step (steps_add s a b)

pub steps_bare : (s : Plain) (n : ℕ) → Seen s → steps s n ≡ behind s.log (steps (bare s) n)
steps_bare s n h = ap (λ (x : Plain). steps x n) (bare_behind s h) ∙ steps_behind s.log (bare s) n

-- a stopped machine stays
pub still : (s : Plain) (n : ℕ) → is_stopped s ≡ true → steps s n ≡ s
unfolding steps step
still s zero h = refl
still s (suc n) h =
    let e = still s n h in
    cc

pub still_on : (s : Plain) (n b : ℕ) → n ≤ b → is_stopped (steps s n) ≡ true → steps s b ≡ steps s n
still_on s n b h k =
    let e : b ≡ (b - n) + n = omega arith in
    ap (steps s) e ∙ (steps_add s n (b - n) ∙ still (steps s n) (b - n) k)

-- a step of a running machine logs its address
pub step_logs : (s : Plain) → is_stopped s ≡ false → (step s).log ≡ s.log ++ s.machine.address ∷ []
unfolding step performed stopped_by
step_logs s h = go (is_bad (accessed s).status) refl
  where
    go : (c : Bool) → is_bad (accessed s).status ≡ c → (step s).log ≡ s.log ++ s.machine.address ∷ []
    go true e = cc
    go false e = cc

pub step_counts : (s : Plain) → (step s).machine.count ≤ s.machine.count + 1
unfolding step performed stopped_by
step_counts s = go (is_stopped s) (is_bad (accessed s).status)
  where
    go : (b c : Bool) → (cond b s (cond c (stopped_by s (accessed s).status) (performed s))).machine.count ≤ s.machine.count + 1
    go true c = omega arith
    go false true = omega arith
    go false false = omega arith

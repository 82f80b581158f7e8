-- The loop over the lines, turn by turn. Assumes nothing.
use mathlib.Core.Path.{◌≡◌, refl, ap, ◌∙◌, subst}
use mathlib.Core.Bool.{false}
use mathlib.Core.List.{List}
use Rattle.std.specs.Prelude.{Result, Ok, Err, Some}
use Prim.Native.Nat.{ℕ, suc, ◌+◌, ◌-◌, ◌≤◌, ◌<◌}
use native.Mathlib.Omega.{arith}
use lib.ListN.{length}
use Rattle.machine.specs.declared.Machine.{Machine}
use Rattle.machine.specs.Memory.{lent}
use Rattle.machine.specs.Runs.{size_refused, window_refused}
use Rattle.clocked.specs.Prediction.{Core}
use Rattle.trace.specs.declared.Kind.{Kind}
use Rattle.trace.specs.Verdict.{accepted}
use Rattle.checking.specs.declared.Checking.{Checking}
use Rattle.checking.specs.State.{Open, Checked}
use Rattle.checking.specs.Loop.{at_start, Fresh, size_most, Goes, goes_open, goes_window, goes_first, Ends, goes_end, goes_wrong, goes_on_lem}

-- before each line: b₀ and b are the bytes of the copy, at first and now
pub record Turn (g : Core) (k : Machine) (b₀ trace : List ℕ) (c : Checking) (b : List ℕ) : Type 0 where
  pub goes : Goes g k (lent b₀) trace c (lent b)
  pub long : length b ≡ length b₀
  pub fresh : Fresh k b₀

pub starts : (g : Core) (k : Machine) (b trace : List ℕ) (c : Checking) → c ≡ at_start k → Fresh k b → Turn g c.machine b trace c b
unfolding at_start
starts g k b trace c e f = rw e (record { goes = goes_first g k (lent b) trace f.none_performed refl; long = refl; fresh = f })

pub fresh_machine : (c : Checking) (k : Machine) → c ≡ at_start k → c.machine ≡ k
unfolding at_start
fresh_machine c k e = ap (λ (x : Checking). x.machine) e

module _ (g : Core) (k : Machine) (b₀ trace : List ℕ) (c : Checking) (b : List ℕ) (t : Turn g k b₀ trace c b) where
  pub ready : (Open c trace) × (length b ≤ 65536) × (size_refused (length b) ≡ false) × (window_refused c.machine.window (length b) ≡ false)
  ready =
      let w = goes_window g k (lent b₀) trace c (lent b) t.goes in (
        goes_open g k (lent b₀) trace c (lent b) t.goes,
        omega (arith, t.long, size_most (length b₀) t.fresh.size_fits),
        rw t.long t.fresh.size_fits,
        rw (t.long, w) t.fresh.window_fits,
      )

  pub ends : (machine : Machine) → k ≡ machine → length trace ≤ c.at → Ends g machine (lent b₀) trace (accepted c.machine.count) (lent b)
  ends machine e h = subst (λ (x : Machine). Ends g x (lent b₀) trace (accepted c.machine.count) (lent b)) e (goes_end g k (lent b₀) trace c (lent b) t.goes h)

  module _ (more : c.at < length trace) (r : Result Checking Kind) (b' : List ℕ) (checked : Checked g trace c (lent b) r (lent b')) where
    module _ (next : Checking) (z : r ≡ Ok next) where
      goes_on : Goes g k (lent b₀) trace next (lent b') × (c.at < next.at)
      goes_on = goes_on_lem g k (lent b₀) trace c r (lent b) (lent b') t.goes more next z checked

      pub turns : length b' ≡ length b → Turn g k b₀ trace next b'
      turns l = record { goes = goes_on.0; long = l ∙ t.long; fresh = t.fresh }

      pub less : length trace - next.at < length trace - c.at
      less = omega (arith, goes_on.1)

    pub breaks_off : (kind : Kind) → r ≡ Err kind → (machine : Machine) → k ≡ machine
        → Ends g machine (lent b₀) trace (record { line = c.machine.count + 1; kind = Some kind; right = c.machine.count }) (lent b')
    breaks_off kind z machine e =
        let one : suc c.machine.count ≡ c.machine.count + 1 = omega arith in
        subst (λ (x : Machine). Ends g x (lent b₀) trace (record { line = c.machine.count + 1; kind = Some kind; right = c.machine.count }) (lent b')) e
        (subst (λ (i : ℕ). Ends g k (lent b₀) trace (record { line = i; kind = Some kind; right = c.machine.count }) (lent b')) one
        (goes_wrong g k (lent b₀) trace c r (lent b) (lent b') t.goes more kind z checked))

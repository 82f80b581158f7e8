-- Signed overflow, once over the width: a true result that does not fit is outside. Assumes nothing.
use Rattle.std.proofs.Common.{sym, ◌≡◌, ◌-◌, ◌^◌, ◌<◌, Bool, true, false, ℤ, pos, negsuc, arith, FitsSigned, pow_pos, lt-ltb, le-ltb}
use Rattle.std.specs.Bool.{FalseIff}
use Rattle.std.specs.Int.{Width}
use mir.Val.{hbits}
use Rattle.machine.specs.Words.{outside}

pub outside_is : (w : Width) (z : ℤ) (r : Bool) → FalseIff r (FitsSigned w z) → r ≡ outside w z
unfolding outside
outside_is w (pos n) true f =
    let p = pow_pos (hbits w) in
    let g : n < 2 ^ hbits w → ⊥ = λ h. f (record { sfits = h }) in
    sym (lt-ltb (2 ^ hbits w - 1) n (omega arith))
outside_is w (pos n) false f = sym (le-ltb (2 ^ hbits w - 1) n (omega (arith, f.sfits)))
outside_is w (negsuc n) true f =
    let p = pow_pos (hbits w) in
    let g : n < 2 ^ hbits w → ⊥ = λ h. f (record { sfits = h }) in
    rw (lt-ltb (2 ^ hbits w - 1) n (omega arith))
outside_is w (negsuc n) false f = rw (le-ltb (2 ^ hbits w - 1) n (omega (arith, f.sfits)))

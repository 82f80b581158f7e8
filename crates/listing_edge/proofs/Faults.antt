-- The refusals at the edge: none has the number 0, and a fault let in has 16 bytes. Assumes nothing.
use mathlib.Core.Path.{◌≡◌, sym}
use mathlib.Core.Bool.{false, not}
use Prim.Native.Nat.{ℕ}
use lib.Dec.{eqb}
use borrow.Author.Tests.{eqb-true, ne_eqb, not-false}
use Rattle.machine.specs.Runs.{size_refused, lowest}
use Rattle.answers.specs.Refusals.{failed}
use Rattle.answers.specs.declared.Refusal.{Refusal}
use Rattle.answers.specs.Numbers.{refusal_number, numbered}
use Rattle.listing_edge.specs.Listings.{listing_refusal}

-- REFUSALS
pub not_0 : (r : Refusal) → eqb (refusal_number r) 0 ≡ false
not_0 r = ne_eqb (refusal_number r) 0 (numbered r)

pub block_of_16 : (memory fault : ℕ) → 0 ≡ listing_refusal memory fault → fault ≡ 16
unfolding listing_refusal lowest
block_of_16 memory fault h =
    let p = failed (size_refused memory) 0 _ (sym h) in
    eqb-true fault 16 (not-false (eqb fault 16) (failed (not (eqb fault 16)) 3 _ p.1).0)

-- Laws of refusals: what a number 0 says of the tests. Assumes nothing.
use Rattle.std.specs.Prelude.{◌≡◌, refl, Bool, true, false, cond, ℕ, suc, eqb}
use Rattle.std.proofs.Common.{sym, ◌∙◌, arith}
use Rattle.std.proofs.lemmas.Bool.{eqb-false}

-- a test that would have given a number above 0 failed
pub failed : (t : Bool) (n x : ℕ) → cond t (suc n) x ≡ 0 → (t ≡ false) × (x ≡ 0)
failed true n x e = absurd (omega arith)
failed false n x e = (refl, e)

-- an answer whose number is 0 is that of a run, and no refusal
pub ran : {A : Type 0} (number : A → ℕ) (n : ℕ) (done refused : A) → number refused ≡ n
    → number (cond (eqb n 0) done refused) ≡ 0 → cond (eqb n 0) done refused ≡ done
ran number n done refused r = go (eqb n 0) refl
  where
    go : (b : Bool) → eqb n 0 ≡ b → number (cond b done refused) ≡ 0 → cond b done refused ≡ done
    go true e h = refl
    go false e h = absurd (eqb-false n 0 e (sym r ∙ h))

-- Laws of a log laid over the lent one. Assumes nothing.
use Rattle.std.specs.Prelude.{◌≡◌, refl, List, [], ◌∷◌, ◌++◌, ℕ, suc, length, set, take, drop}
use Rattle.std.proofs.Common.{ap, sym}
use Rattle.machine.specs.Runs.{laid}

-- one entry more: a place past the end is not there
pub laid_more : (es log : List ℕ) (x : ℕ) → laid (es ++ x ∷ []) log ≡ set (laid es log) (length es) x
unfolding laid
laid_more [] [] x = refl
laid_more [] (y ∷ log) x = refl
laid_more (e ∷ es) [] x = refl
laid_more (e ∷ es) (y ∷ log) x = ap (λ (l : List ℕ). e ∷ l) (laid_more es log x)

pub laid_length : (es log : List ℕ) → length (laid es log) ≡ length log
unfolding laid
laid_length [] log = refl
laid_length (e ∷ es) [] = refl
laid_length (e ∷ es) (y ∷ log) = ap suc (laid_length es log)

-- a log that has no place keeps none
pub laid_none : (es : List ℕ) → laid es [] ≡ []
unfolding laid
laid_none [] = refl
laid_none (e ∷ es) = refl

-- entries laid in two goes
pub laid_joined : (es fs log : List ℕ) → laid (es ++ fs) log ≡ take (length es) (laid es log) ++ laid fs (drop (length es) (laid es log))
unfolding laid
laid_joined [] fs log = refl
laid_joined (e ∷ es) fs [] = sym (laid_none fs)
laid_joined (e ∷ es) fs (y ∷ log) = ap (λ (l : List ℕ). e ∷ l) (laid_joined es fs log)

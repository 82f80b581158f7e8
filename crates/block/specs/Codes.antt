-- The codes given as a number are the codes of that number. Assumes nothing.
use Rattle.std.specs.Prelude.{◌≡◌, refl, ℕ, zero, suc, ◌<◌}
use Rattle.std.proofs.Common.{arith}
use Rattle.machine.specs.Types.{codes_number}
use Rattle.block.specs.Block.{codes_from}

-- the codes' number, there and back
pub codes_back : (n : ℕ) → n < 8 → codes_number (codes_from n) ≡ n
unfolding codes_number codes_from
codes_back zero h = refl
codes_back (suc zero) h = refl
codes_back (suc (suc zero)) h = refl
codes_back (suc (suc (suc zero))) h = refl
codes_back (suc (suc (suc (suc zero)))) h = refl
codes_back (suc (suc (suc (suc (suc zero))))) h = refl
codes_back (suc (suc (suc (suc (suc (suc zero)))))) h = refl
codes_back (suc (suc (suc (suc (suc (suc (suc zero))))))) h = refl
codes_back (suc (suc (suc (suc (suc (suc (suc (suc n)))))))) h = absurd (omega arith)

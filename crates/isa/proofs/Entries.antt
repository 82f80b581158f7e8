-- What the kinds of the constant tables decide is what the rows say. Assumes nothing.
use Rattle.std.specs.Prelude.{ℕ, zero, suc, ◌≡◌, true, false, ◌||◌}
use mathlib.Core.Path.{refl}
use Rattle.machine.specs.declared.Executed.{Executed}
use Rattle.machine.specs.Table.{no_codes, row_of, table}
use Rattle.machine.specs.Table as kinds
use Rattle.machine.specs.Stages.{loading, storing, addressed, stored}
use Rattle.lookup.specs.declared.kinds.Accesses.{Accesses}
use Rattle.lookup.specs.declared.kinds.Accesses.TheVariants.{NoAccess, LoadsAtE, LoadsAtA, StoresA, StoresNext}
use Rattle.lookup.specs.Kinds.{accesses_meant}

-- the rows that set codes are those of OPq and iaddq: a clause for each row, and one for what is past them
pub none_set : (code : ℕ) → (code ≡ 6 → ⊥) → (code ≡ 12 → ⊥) → (row_of code).sets ≡ no_codes
unfolding row_of table
none_set zero h n = refl
none_set (suc zero) h n = refl
none_set (suc (suc zero)) h n = refl
none_set (suc (suc (suc zero))) h n = refl
none_set (suc (suc (suc (suc zero)))) h n = refl
none_set (suc (suc (suc (suc (suc zero))))) h n = refl
none_set (suc (suc (suc (suc (suc (suc zero)))))) h n = absurd (h refl)
none_set (suc (suc (suc (suc (suc (suc (suc zero))))))) h n = refl
none_set (suc (suc (suc (suc (suc (suc (suc (suc zero)))))))) h n = refl
none_set (suc (suc (suc (suc (suc (suc (suc (suc (suc zero))))))))) h n = refl
none_set (suc (suc (suc (suc (suc (suc (suc (suc (suc (suc zero)))))))))) h n = refl
none_set (suc (suc (suc (suc (suc (suc (suc (suc (suc (suc (suc zero))))))))))) h n = refl
none_set (suc (suc (suc (suc (suc (suc (suc (suc (suc (suc (suc (suc zero)))))))))))) h n = absurd (n refl)
none_set (suc (suc (suc (suc (suc (suc (suc (suc (suc (suc (suc (suc (suc zero))))))))))))) h n = refl
none_set (suc (suc (suc (suc (suc (suc (suc (suc (suc (suc (suc (suc (suc (suc zero)))))))))))))) h n = refl
none_set (suc (suc (suc (suc (suc (suc (suc (suc (suc (suc (suc (suc (suc (suc (suc zero))))))))))))))) h n = refl
none_set (suc (suc (suc (suc (suc (suc (suc (suc (suc (suc (suc (suc (suc (suc (suc (suc code)))))))))))))))) h n = refl

pub loads_or_stores : (k : kinds.Accesses) → loading k ≡ true → storing k ≡ false
unfolding loading storing
loads_or_stores kinds.no_access h = refl
loads_or_stores kinds.loads_at_e h = refl
loads_or_stores kinds.loads_at_a h = refl
loads_or_stores kinds.stores_a h = cc
loads_or_stores kinds.stores_next h = cc

-- any kind but none loads or stores
pub some_access : (k : Accesses) → (k ≡ NoAccess → ⊥) → (loading (accesses_meant k) || storing (accesses_meant k)) ≡ true
unfolding accesses_meant loading storing
some_access NoAccess h = absurd (h refl)
some_access LoadsAtE h = refl
some_access LoadsAtA h = refl
some_access StoresA h = refl
some_access StoresNext h = refl

-- any kind but a load at valA has its address in valE
pub at_result : (k : Accesses) (x : Executed) → (k ≡ LoadsAtA → ⊥) → x.result ≡ addressed (accesses_meant k) x
unfolding accesses_meant addressed
at_result NoAccess x h = refl
at_result LoadsAtE x h = refl
at_result LoadsAtA x h = absurd (h refl)
at_result StoresA x h = refl
at_result StoresNext x h = refl

-- any kind but a store of the next address has valA stored
pub a_kept : (k : Accesses) (x : Executed) → (k ≡ StoresNext → ⊥) → x.a ≡ stored (accesses_meant k) x
unfolding accesses_meant stored
a_kept NoAccess x h = refl
a_kept LoadsAtE x h = refl
a_kept LoadsAtA x h = refl
a_kept StoresA x h = refl
a_kept StoresNext x h = absurd (h refl)

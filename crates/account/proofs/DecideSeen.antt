-- The weakest premise is decidable: a test on the plain history that is true exactly when it holds.
use Rattle.std.specs.Prelude.{ℕ, ◌<◌, Bool, true, false, [], ◌∷◌, ◌↔◌, ◌≡◌, refl, eqb, get_or}
use Rattle.std.proofs.Common.{ap, sym, ◌∙◌, eqb-true, eq-eqb}
use Rattle.account.specs.Names.{Status, aok, hlt, adr, ins, Instruction}
use Rattle.account.specs.Names.{Option, Fault, no_fault, faulty, first_missing, no_code, no_function, later_missing, no_register}
use Rattle.machine.specs.Types.{status_number, fault_number}
use Rattle.machine.specs.Plain.{Plain, is_stopped, steps}
use Rattle.clocked.specs.Prediction.{Core}
use Rattle.account.specs.Seen.{FetchedAlike, Seen}
use Rattle.account.proofs.Sight.{both}
use Rattle.account.proofs.Decide.{all_each, each_all}
use Rattle.account.specs.DecideSeen.{all_alike, is_alike, same, well_fetched}

numbered : ℕ → Status
numbered n = get_or (aok ∷ aok ∷ hlt ∷ adr ∷ ins ∷ []) n aok

numbered_back : (x : Status) → numbered (status_number x) ≡ x
unfolding numbered status_number
numbered_back aok = refl
numbered_back hlt = refl
numbered_back adr = refl
numbered_back ins = refl

blamed : ℕ → Option Fault
blamed n = get_or (no_fault ∷ faulty first_missing ∷ faulty no_code ∷ faulty no_function ∷ faulty later_missing ∷ faulty no_register ∷ []) n no_fault

blamed_back : (x : Option Fault) → blamed (fault_number x) ≡ x
unfolding blamed fault_number
blamed_back no_fault = refl
blamed_back (faulty first_missing) = refl
blamed_back (faulty no_code) = refl
blamed_back (faulty no_function) = refl
blamed_back (faulty later_missing) = refl
blamed_back (faulty no_register) = refl

made : (address : ℕ) → Status → (code function ra rb constant next : ℕ) → Option Fault → Instruction
made p s c f a b k n y = record { address = p; status = s; code = c; function = f; ra = a; rb = b; constant = k; next = n; fault = y }

abbrev again : Instruction → Instruction
again i = made i.address i.status i.code i.function i.ra i.rb i.constant i.next i.fault

made_same : (i j : Instruction) → same i j ≡ true → again i ≡ again j
unfolding same
made_same i j h =
    let h1 = both (eqb i.address j.address) _ h in
    let h2 = both (eqb (status_number i.status) (status_number j.status)) _ h1.1 in
    let h3 = both (eqb i.code j.code) _ h2.1 in
    let h4 = both (eqb i.function j.function) _ h3.1 in
    let h5 = both (eqb i.ra j.ra) _ h4.1 in
    let h6 = both (eqb i.rb j.rb) _ h5.1 in
    let h7 = both (eqb i.constant j.constant) _ h6.1 in
    let h8 = both (eqb i.next j.next) _ h7.1 in
    let fault = sym (blamed_back i.fault) ∙ (ap blamed (eqb-true (fault_number i.fault) (fault_number j.fault) h8.1) ∙ blamed_back j.fault) in
    let status = sym (numbered_back i.status) ∙ (ap numbered (eqb-true (status_number i.status) (status_number j.status) h2.0) ∙ numbered_back j.status) in
    cc (
      eqb-true i.address j.address h1.0,
      status,
      eqb-true i.code j.code h3.0,
      eqb-true i.function j.function h4.0,
      eqb-true i.ra j.ra h5.0,
      eqb-true i.rb j.rb h6.0,
      eqb-true i.constant j.constant h7.0,
      eqb-true i.next j.next h8.0,
      fault,
    )

pub same_sound : (i j : Instruction) → same i j ≡ true → i ≡ j
unfolding made
same_sound i j h = made_same i j h

self : (n : ℕ) → eqb n n ≡ true
self n = eq-eqb n n refl

same_self : (i : Instruction) → same i i ≡ true
unfolding same
same_self i =
    cc (self i.address, self (status_number i.status), self i.code, self i.function, self i.ra, self i.rb, self i.constant, self i.next, self (fault_number i.fault))

pub same_complete : (i j : Instruction) → i ≡ j → same i j ≡ true
same_complete i j e = rw e (same_self j)

pub alike_decided : (g : Core) (s : Plain) (n : ℕ) → (is_alike g s n ≡ true) ↔ FetchedAlike g s n
unfolding is_alike
alike_decided g s n = (same_sound _ _, same_complete _ _)

pub seen_decided : (g : Core) (s : Plain) (K : ℕ) → (all_alike g s K ≡ true) ↔ Seen g s K
unfolding all_alike well_fetched
seen_decided g s K = (sound, complete)
  where
    sound : all_alike g s K ≡ true → Seen g s K
    sound h n q r = (alike_decided g s n).0 (go (all_each K (well_fetched g s) h n q))
      where
        go : well_fetched g s n ≡ true → is_alike g s n ≡ true
        go z = cc

    complete : Seen g s K → all_alike g s K ≡ true
    complete u = each_all K (well_fetched g s) (λ n q. by n q (is_stopped (steps s n)) refl)
      where
        by : (n : ℕ) → n < K → (b : Bool) → is_stopped (steps s n) ≡ b → well_fetched g s n ≡ true
        by n q true e = cc
        by n q false e = cc ((alike_decided g s n).1 (u n q e))

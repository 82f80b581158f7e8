-- The plain engine on two images that differ only where nothing is looked at: the same instructions, registers, codes, status and log.
use Prim.Native.Nat.{ℕ, zero, suc, ◌+◌, ◌-◌, ◌≤◌, ◌<◌}
use Rattle.std.specs.Prelude.{Bool, ◌&&◌, ◌≡◌, ltb, leb}
use Rattle.std.proofs.Math.Bool.{true, false, cond}
use Rattle.std.proofs.Math.Path.{refl, ap, sym, subst}
use Rattle.std.proofs.Common.{◌∙◌, arith}
use borrow.Author.Tests.{lt-ltb, le-leb, leb-true, le-ltb, leb-false}
use Rattle.machine.specs.declared.Machine.{Machine}
use Rattle.machine.specs.declared.Executed.{Executed}
use Rattle.machine.specs.declared.Status.{Status}
use Rattle.machine.specs.Types.{is_bad, is_set}
use Rattle.machine.specs.Memory.{Memory, code_end, inside, load}
use Rattle.machine.specs.Fetch.{fetch, size_at, blame_of}
use Rattle.machine.specs.Stages.{decode, execute, access, access_status, patches, access_address, loads, new_memory}
use Rattle.machine.specs.Plain.{Plain, is_stopped, fetched, decoded, executed, accessed, performed, stopped_by, step, steps}
use Rattle.clocked.specs.Premise.{writes_byte, has_byte, Premise}
use Rattle.published.specs.Fetching.{M₁}
use Rattle.published.specs.Columns.{stays as step_still}
use Rattle.account.proofs.Sight.{runs_before}
use Rattle.junk.specs.Statement.{looked, looks_at, reads_byte, NoPart}
use Rattle.junk.proofs.Bytes.{Alike, end_alike, inside_alike, blame_alike, store_alike, load_same, same_fetch, size_same, looked_alike}

-- an access is the same where the word that it loads is
module _ (E : ℕ → Type 0) (x : Executed) (u u' : Memory) (h : Alike E u u') where
  status_same : access_status x u ≡ access_status x u'
  unfolding access_status
  status_same = rw (inside_alike E u u' h (access_address x))

  patches_same : patches x u ≡ patches x u'
  unfolding patches
  patches_same = cc (status_same, ap (λ (m : Memory). m.window) h.rest)

  access_same : (loads x.instruction ≡ true → load u (access_address x) ≡ load u' (access_address x)) → access x u ≡ access x u'
  unfolding access
  access_same f = cc (word (loads x.instruction) refl, status_same, patches_same)
    where
      word : (b : Bool) → loads x.instruction ≡ b → cond b (load u (access_address x)) 0 ≡ cond b (load u' (access_address x)) 0
      word true e = f e
      word false e = refl

-- the k bytes from a on, cut at n: none, where n is not beyond a
none_of : (a k n x : ℕ) → leb n a ≡ true → leb a x && (ltb x (a + k) && ltb x n) ≡ false
none_of a k n x e = go (leb a x) (ltb x (a + k)) refl
  where
    go : (b c : Bool) → leb a x ≡ b → b && (c && ltb x n) ≡ false
    go false c f = refl
    go true false f = refl
    go true true f = le-ltb x n (omega (arith, leb-true n a e, leb-true a x f))

module _ (E : ℕ → Type 0) where
  -- two plain states that may differ only in memory, and there only where E does not hold
  pub record Beside (s s' : Plain) : Type 0 where
    pub machine : s.machine ≡ s'.machine
    pub log : s.log ≡ s'.log
    pub memory : Alike E s.memory s'.memory

  pub same_stopped : (s s' : Plain) → Beside s s' → is_stopped s ≡ is_stopped s'
  unfolding is_stopped
  same_stopped s s' b = ap (λ (k : Machine). is_bad k.status) b.machine

  -- E holds of every byte that the instruction performed at s looks at
  pub record Covers (s : Plain) : Type 0 where
    pub looks : (x : ℕ) → looks_at s x ≡ true → E x
    pub reads : (x : ℕ) → reads_byte s x ≡ true → E x

  module _ (s s' : Plain) (b : Beside s s') (c : Covers s) where
    abbrev at : ℕ
    at = s.machine.address

    ends : code_end s.memory at ≡ code_end s'.memory at
    ends = end_alike E s.memory s'.memory b.memory at

    -- then it is the same instruction, stage by stage
    looked_same : (x : ℕ) → at ≤ x → x < at + looked s.memory at → x < code_end s.memory at → M₁ s.memory x ≡ M₁ s'.memory x
    unfolding looks_at
    looked_same x lo hi q = b.memory.same x (c.looks x (cc (le-leb _ _ lo, lt-ltb _ _ hi, lt-ltb _ _ q)))

    same_fetched : fetched s ≡ fetched s'
    unfolding fetched
    same_fetched = same_fetch s.memory s'.memory at ends looked_same ∙ ap (λ (k : Machine). fetch s'.memory k.address) b.machine

    same_decoded : decoded s ≡ decoded s'
    unfolding decoded
    same_decoded = cc (same_fetched, b.machine)

    same_executed : executed s ≡ executed s'
    unfolding executed
    same_executed = cc (same_decoded, b.machine)

    abbrev accesses : ℕ
    accesses = access_address (executed s)

    same_inside : inside s.memory accesses ≡ inside s'.memory accesses
    same_inside = inside_alike E s.memory s'.memory b.memory accesses

    same_accessed : accessed s ≡ accessed s'
    unfolding accessed reads_byte executed execute decoded decode
    same_accessed =
        access_same E (executed s) s.memory s'.memory b.memory
        (λ l. load_same s.memory s'.memory accesses same_inside (λ i x lo hi. b.memory.same x (c.reads x (cc (i, le-leb _ _ lo, lt-ltb _ _ hi)))))
        ∙ ap (λ (x : Executed). access x s'.memory) same_executed

    same_blame : blame_of s.memory (fetched s) ≡ blame_of s'.memory (fetched s')
    same_blame = blame_alike E s.memory s'.memory b.memory (fetched s) ∙ ap (blame_of s'.memory) same_fetched

    -- what it leaves is alike again: it writes the same bytes
    stopped_beside : (x : Status) → Beside (stopped_by s x) (stopped_by s' x)
    unfolding stopped_by
    stopped_beside x = let k = b.machine in record { machine = cc (same_blame); log = cc b.log; memory = b.memory }

    performed_beside : Beside (performed s) (performed s')
    unfolding performed
    performed_beside =
        let k = b.machine in
        record {
          machine = cc (same_accessed, same_decoded);
          log = cc b.log;
          memory =
              subst (λ (x : Executed). Alike E (new_memory (executed s) s.memory) (new_memory x s'.memory)) same_executed
              (store_alike E (executed s) s.memory s'.memory b.memory);
        }

    step_beside : Beside (step s) (step s')
    unfolding step
    step_beside = rw (sym (same_stopped s s' b), sym same_accessed) (go (is_stopped s) (is_bad (accessed s).status))
      where
        go : (x y : Bool) → Beside (cond x s (cond y (stopped_by s (accessed s).status) (performed s))) (cond x s' (cond y (stopped_by s' (accessed s).status) (performed s')))
        go true y = b
        go false true = stopped_beside (accessed s).status
        go false false = performed_beside

    -- and the premise speaks of the same bytes
    same_writes : (x : ℕ) → writes_byte s x ≡ writes_byte s' x
    unfolding writes_byte
    same_writes x = cc (same_fetched, same_executed, same_inside)

    same_reads : (x : ℕ) → reads_byte s x ≡ reads_byte s' x
    unfolding reads_byte
    same_reads x = cc (same_fetched, same_executed, same_inside)

    -- of the bytes from its address on, as many where there is one, and else none
    same_range : (k k' : ℕ) → (at < code_end s.memory at → k ≡ k') → (x : ℕ)
        → leb at x && (ltb x (at + k) && ltb x (code_end s.memory at)) ≡ leb at x && (ltb x (at + k') && ltb x (code_end s.memory at))
    same_range k k' f x = go (leb (code_end s.memory at) at) refl
      where
        go : (z : Bool) → leb (code_end s.memory at) at ≡ z
            → leb at x && (ltb x (at + k) && ltb x (code_end s.memory at)) ≡ leb at x && (ltb x (at + k') && ltb x (code_end s.memory at))
        go true e = none_of at k (code_end s.memory at) x e ∙ sym (none_of at k' (code_end s.memory at) x e)
        go false e = cc (f (leb-false _ _ e))

    same_bytes : (x : ℕ) → has_byte s x ≡ has_byte s' x
    unfolding has_byte
    same_bytes x =
        same_range (size_at s.memory at) (size_at s'.memory at) (λ q. size_same s.memory s'.memory at ends looked_same q) x
        ∙ cc (b.machine, ends)

    same_looks : (x : ℕ) → looks_at s x ≡ looks_at s' x
    unfolding looks_at
    same_looks x =
        same_range (looked s.memory at) (looked s'.memory at) (λ q. looked_alike s.memory s'.memory at ends looked_same q) x
        ∙ cc (b.machine, ends)

  -- THE SAME HISTORY from s and from s'
  pub record Twins (s s' : Plain) : Type 0 where
    pub after : (n : ℕ) → Beside (steps s n) (steps s' n)
    pub fetches : (n : ℕ) → is_stopped (steps s n) ≡ false → fetched (steps s n) ≡ fetched (steps s' n)
    pub accesses : (n : ℕ) → is_stopped (steps s n) ≡ false → accessed (steps s n) ≡ accessed (steps s' n)

  pub stop_alike : (s s' : Plain) → Twins s s' → (n : ℕ) → is_stopped (steps s n) ≡ is_stopped (steps s' n)
  stop_alike s s' w n = same_stopped (steps s n) (steps s' n) (w.after n)

  -- where E holds of every byte that the instructions performed from s look at
  module _ (s s' : Plain) (b : Beside s s') (c : (n : ℕ) → is_stopped (steps s n) ≡ false → Covers (steps s n)) where
    beside : (n : ℕ) → Beside (steps s n) (steps s' n)
    unfolding steps
    beside zero = b
    beside (suc n) = go (beside n) (is_stopped (steps s n)) refl
      where
        go : Beside (steps s n) (steps s' n) → (x : Bool) → is_stopped (steps s n) ≡ x → Beside (step (steps s n)) (step (steps s' n))
        go h false e = step_beside (steps s n) (steps s' n) h (c n e)
        go h true e = rw (step_still (steps s n) e, step_still (steps s' n) (sym (same_stopped (steps s n) (steps s' n) h) ∙ e)) h

    pub twins : Twins s s'
    twins =
        record {
          after = beside;
          fetches = λ n r. same_fetched (steps s n) (steps s' n) (beside n) (c n r);
          accesses = λ n r. same_accessed (steps s n) (steps s' n) (beside n) (c n r);
        }

    -- demand 3's premise holds from s' too
    pub premise_alike : (K : ℕ) → Premise s K → Premise s' K
    premise_alike K u o j n lo hi q r x w h =
        let e = stop_alike s s' twins n ∙ r in
        let f = runs_before s (n - j) j n (omega arith) e in
        let unset : is_set s.memory.window ≡ false = sym (ap (λ (m : Memory). is_set m.window) b.memory.rest) ∙ o in
        u unset j n lo hi q e x
        (same_writes (steps s j) (steps s' j) (beside j) (c j f) x ∙ w)
        (same_bytes (steps s n) (steps s' n) (beside n) (c n e) x ∙ h)

    -- and what plays no part from s plays none from s'
    pub no_part_alike : (x : ℕ) → NoPart s x → NoPart s' x
    no_part_alike x h = (
      λ n r. let e = stop_alike s s' twins n ∙ r in sym (same_looks (steps s n) (steps s' n) (beside n) (c n e) x) ∙ h.0 n e,
      λ n r. let e = stop_alike s s' twins n ∙ r in sym (same_reads (steps s n) (steps s' n) (beside n) (c n e) x) ∙ h.1 n e,
    )

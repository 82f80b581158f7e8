-- What the checker holds follows the plain history: it judges each line as the definition does.
use Prim.Native.Nat.{ℕ, zero, suc, ◌+◌, ◌-◌}
use Rattle.std.specs.Prelude.{None, Some, Bool, cond, ltb, ◌&&◌, ◌||◌, ◌≡◌, leb}
use Rattle.std.proofs.Math.Bool.{true, false, not}
use Rattle.std.proofs.Common.{true≢false, ◌∙◌, arith, le-leb, leb-true, leb-false}
use mathlib.Core.List.{List}
use Rattle.std.proofs.Math.Path.{refl, ap, sym}
use Rattle.std.proofs.lemmas.Bool.{lt-leb}
use Rattle.machine.specs.declared.Executed.{Executed}
use Rattle.machine.specs.declared.Machine.{Machine}
use Rattle.machine.specs.Types.{Window}
use Rattle.machine.specs.Types.{no_window, within}
use Rattle.machine.specs.Types.{is_bad, is_set}
use Rattle.machine.specs.Memory.{Memory, through, size, inside, seen_to, code_end, value}
use Rattle.machine.specs.Table.{row_of, Accesses, no_access, loads_at_e, loads_at_a, stores_a, stores_next}
use Rattle.machine.specs.Fetch.{size_at}
use Rattle.machine.specs.Stages.{storing, stores, addressed, access_address, decode, execute, access, new_registers}
use Rattle.machine.specs.Plain.{Plain, plain_of, is_stopped, fetched, decoded, executed, accessed, performed, stopped_by, step, steps}
use Rattle.clocked.specs.Prediction.{Core}
use Rattle.clocked.specs.Charges.{reason_from, reason_of, charge, charges, due}
use Rattle.laws.specs.Window.{steps_keep}
use Rattle.plain.specs.Steps.{bare, seen, step_bare}
use Rattle.account.specs.Statement.{kept_of}
use Rattle.account.specs.Decide.{touches, clear, all}
use Rattle.trace.specs.Line.{target_of}
use Rattle.trace.specs.Text.{plain_line}
use Rattle.trace.specs.Verdict.{written_into}
use Rattle.checking.specs.declared.stores.Stores.{Stores}
use Rattle.checking.specs.declared.Checking.{Checking}
use Rattle.checking.specs.Stores.{store_by, store_of, no_store, store_before, stores_before, hits, touched_by, written_by}
use Rattle.checking.specs.State.{held, charged_next, line_due, passed_on}

-- a state whose memory is seen through the record's window, and it without what it has logged
module _ (s : Plain) (h : s.memory.window ≡ s.machine.window) where
  memory_bare : s.memory ≡ (bare s).memory
  memory_bare = ap (λ (w : Window). through w s.memory) h

  executed_bare : executed s ≡ executed (bare s)
  unfolding executed decoded fetched
  executed_bare = ap (λ (m : Memory). executed (record { machine = s.machine; memory = m; log = s.log })) memory_bare

  accessed_bare : accessed s ≡ accessed (bare s)
  unfolding accessed executed decoded fetched
  accessed_bare = ap (λ (m : Memory). accessed (record { machine = s.machine; memory = m; log = s.log })) memory_bare

-- a step of a running machine: its target's value, and its count
module _ (s : Plain) (r : is_stopped s ≡ false) where
  value_stepped : value (new_registers (accessed s) s.machine.registers) (target_of (accessed s)) ≡ value (step s).machine.registers (target_of (accessed s))
  unfolding step performed stopped_by target_of value
  value_stepped = go (is_bad (accessed s).status) refl
    where
      go : (b : Bool) → is_bad (accessed s).status ≡ b
          → value (new_registers (accessed s) s.machine.registers) (target_of (accessed s)) ≡ value (step s).machine.registers (target_of (accessed s))
      go true e = rw (r, e)
      go false e = rw (r, e)

  count_stepped : (step s).machine.count ≡ s.machine.count + 1
  unfolding step performed stopped_by
  count_stepped = go (is_bad (accessed s).status) refl
    where
      go : (b : Bool) → is_bad (accessed s).status ≡ b → (step s).machine.count ≡ s.machine.count + 1
      go true e = rw (r, e)
      go false e = rw (r, e)

-- the charge, by what is kept
reason_kept : (g : Core) (s : Plain) (n : ℕ) → reason_of g s (suc n) ≡ reason_from g (kept_of s n) (accessed (steps s n)).instruction
unfolding reason_of reason_from kept_of accessed executed decoded access execute decode
reason_kept g s zero = refl
reason_kept g s (suc n) = refl

-- STORES
stored_at : (k : Accesses) (x : Executed) → storing k ≡ true → addressed k x ≡ x.result
unfolding storing addressed
stored_at no_access x h = refl
stored_at loads_at_e x h = refl
stored_at loads_at_a x h = absurd (true≢false (sym h))
stored_at stores_a x h = refl
stored_at stores_next x h = refl

unset : (w : Window) → is_set w ≡ false → w ≡ no_window
unfolding is_set
unset no_window h = refl
unset (within (a, b)) h = absurd (true≢false h)

-- what a store hits, where there is one
hits_stored : (x : Executed) (m : Memory) (b end n : ℕ) → hits (store_by x m) b end n
    ≡ ((stores x.instruction && inside m x.result) && (ltb x.result end && (ltb b (x.result + 8) && (ltb x.result n && ltb b n))))
unfolding store_by hits
hits_stored x m b end n = go (stores x.instruction && inside m x.result)
  where
    go : (d : Bool) → hits (cond d (Some x.result) None) b end n ≡ (d && (ltb x.result end && (ltb b (x.result + 8) && (ltb x.result n && ltb b n))))
    go true = refl
    go false = refl

module _ (s t : Plain) (o : is_set t.memory.window ≡ false) where
  hits_touches : hits (store_of s) t.machine.address (t.machine.address + size_at t.memory t.machine.address) (size t.memory) ≡ touches s t
  unfolding store_of touches code_end seen_to stores access_address executed decoded execute decode
  hits_touches =
      hits_stored (executed s) s.memory t.machine.address (t.machine.address + size_at t.memory t.machine.address) (size t.memory)
      ∙ go (storing (row_of (fetched s).code).accesses) refl
    where
      go : (b : Bool) → storing (row_of (fetched s).code).accesses ≡ b
          → ((stores (executed s).instruction && inside s.memory (executed s).result)
          && (ltb (executed s).result (t.machine.address + size_at t.memory t.machine.address)
          && (ltb t.machine.address ((executed s).result + 8) && (ltb (executed s).result (size t.memory) && ltb t.machine.address (size t.memory)))))
          ≡ touches s t
      go true e = rw (unset t.memory.window o, e, stored_at (row_of (fetched s).code).accesses (executed s) e)
      go false e = rw e

-- the three together
abbrev mine : Plain → (n d : ℕ) → Bool
mine s n d = leb n d || not (touches (steps s (n - suc d)) (steps s n))

abbrev found : Plain → (n d : ℕ) → Bool
found s n d =
    hits (store_before s n d) (steps s n).machine.address ((steps s n).machine.address + size_at (steps s n).memory (steps s n).machine.address) (size (steps s n).memory)

module _ (s : Plain) (n : ℕ) (r : is_stopped (steps s n) ≡ false) (o : is_set (steps s n).memory.window ≡ false) where
  found_is : (d : ℕ) → found s n d ≡ not (mine s n d)
  unfolding store_before hits no_store
  found_is d = go (leb n d) refl
    where
      twice : (b : Bool) → b ≡ not (not b)
      twice true = refl
      twice false = refl

      go : (b : Bool) → leb n d ≡ b → found s n d ≡ not (mine s n d)
      go true e = rw e
      go false e = rw e (hits_touches (steps s (n - suc d)) (steps s n) o ∙ twice (touches (steps s (n - suc d)) (steps s n)))

  three : (a b c : Bool) → (not a || (not b || not c)) ≡ not (c && (b && (a && true)))
  three true true true = refl
  three true true false = refl
  three true false true = refl
  three true false false = refl
  three false true true = refl
  three false true false = refl
  three false false true = refl
  three false false false = refl

  touched_is : (found s n 0 || (found s n 1 || found s n 2)) ≡ not (clear 3 s n)
  unfolding clear all
  touched_is = rw (found_is 0, found_is 1, found_is 2, r) (three (mine s n 0) (mine s n 1) (mine s n 2))

-- moved on by one
stores_on : (s : Plain) (n d : ℕ) → store_before s (suc n) (suc d) ≡ store_before s n d
unfolding store_before
stores_on s n d =
    let i : suc n - suc (suc d) ≡ n - suc d = omega arith in
    rw i (ap (λ (b : Bool). cond b no_store (store_of (steps s (n - suc d)))) (go (leb n d) refl))
  where
    go : (b : Bool) → leb n d ≡ b → leb (suc n) (suc d) ≡ leb n d
    go true e = rw e (le-leb (suc n) (suc d) (omega (arith, leb-true n d e)))
    go false e = rw e (lt-leb (suc n) (suc d) (omega (arith, leb-false n d e)))

store_new : (s : Plain) (n : ℕ) → store_before s (suc n) 0 ≡ store_of (steps s n)
unfolding store_before
store_new s n =
    let i : suc n - 1 ≡ n = omega arith in
    rw (lt-leb (suc n) 0 (omega arith), i)

-- WHAT IS HELD after n right lines, the start being k and m₀
module _ (g : Core) (k : Machine) (m₀ : Memory) where
  abbrev start : Plain
  start = plain_of k m₀

  pub record Here (n : ℕ) (c : Checking) (m : Memory) : Type 0 where
    pub machine_is : c.machine ≡ (steps (plain_of k m₀) n).machine
    pub memory_is : m ≡ through no_window (steps (plain_of k m₀) n).memory
    pub count_is : c.machine.count ≡ n
    pub charged_is : c.charged ≡ charges g (plain_of k m₀) n
    pub kept_is : c.kept ≡ kept_of (plain_of k m₀) n
    pub stores_are : c.stores ≡ stores_before (plain_of k m₀) n

  module _ (n : ℕ) (c : Checking) (m : Memory) (here : Here n c m) where
    abbrev now : Plain
    now = steps (plain_of k m₀) n

    seen_now : now.memory.window ≡ now.machine.window
    seen_now = seen k m₀ n

    held_is : held c m ≡ bare now
    held_is = ap (λ (x : Machine). plain_of x m) here.machine_is ∙ ap (λ (x : Memory). plain_of now.machine x) here.memory_is

    executed_is : executed (held c m) ≡ executed now
    executed_is = ap executed held_is ∙ sym (executed_bare now seen_now)

    accessed_is : accessed (held c m) ≡ accessed now
    accessed_is = ap accessed held_is ∙ sym (accessed_bare now seen_now)

    bytes_are : m.bytes ≡ now.memory.bytes
    bytes_are = ap (λ (x : Memory). x.bytes) here.memory_is

    store_held : store_by (executed (held c m)) m ≡ store_of now
    unfolding store_of store_by inside
    store_held =
        ap (λ (x : Executed). store_by x m) executed_is ∙ ap (λ (b : List ℕ). store_by (executed now) (record { bytes = b; window = now.memory.window })) bytes_are

    charged_on : charged_next g c m ≡ charges g (plain_of k m₀) (suc n)
    unfolding charged_next charges charge
    charged_on = rw (here.charged_is, here.kept_is, accessed_is, reason_kept g (plain_of k m₀) n)

    module _ (runs : is_stopped now ≡ false) where
      -- the line that is due is the plain run's
      pub line_is : line_due g c m ≡ plain_line g (plain_of k m₀) n
      unfolding line_due plain_line due steps
      line_is =
          let number : c.machine.count + 1 ≡ suc n = omega (arith, here.count_is) in
          let address : c.machine.address ≡ now.machine.address = ap (λ (x : Machine). x.address) here.machine_is in
          let registers : c.machine.registers ≡ now.machine.registers = ap (λ (x : Machine). x.registers) here.machine_is in
          cc (number, address, registers, charged_on, accessed_is, value_stepped now runs)

      -- and so is whether it was written into
      pub written_is : written_by c.machine.window c.stores m c.machine.address ≡ written_into (plain_of k m₀) n
      unfolding written_by written_into touched_by stores_before size_at
      written_is = go (is_set k.window) refl
        where
          window : c.machine.window ≡ k.window
          window = ap (λ (x : Machine). x.window) here.machine_is ∙ (steps_keep (plain_of k m₀) n).1

          there : touched_by c.stores m c.machine.address
              ≡ (found (plain_of k m₀) n 0 || (found (plain_of k m₀) n 1 || found (plain_of k m₀) n 2))
          there =
              cc (
                ap (λ (x : Machine). x.address) here.machine_is,
                bytes_are,
                ap (λ (x : Stores). x.first) here.stores_are,
                ap (λ (x : Stores). x.second) here.stores_are,
                ap (λ (x : Stores). x.third) here.stores_are,
              )

          go : (b : Bool) → is_set k.window ≡ b
              → written_by c.machine.window c.stores m c.machine.address ≡ written_into (plain_of k m₀) n
          go true e = rw (window, e)
          go false e = rw (window, e) (there ∙ touched_is (plain_of k m₀) n runs (ap is_set (steps_keep (plain_of k m₀) n).0 ∙ e))

      -- one line further
      pub here_on : (m' : Memory) (c' : Checking) (at : ℕ) → c' ≡ passed_on c m (executed (held c m)) (accessed (held c m)) (charged_next g c m) at
          → m' ≡ through no_window (step (held c m)).memory → Here (suc n) c' m'
      unfolding passed_on steps kept_of stores_before
      here_on m' c' at e f =
          record {
            machine_is = ap (λ (x : Checking). x.machine) e ∙ stepped.0;
            memory_is = f ∙ stepped.1;
            count_is = ap (λ (x : Checking). x.machine.count) e ∙ (ap (λ (x : Machine). x.count) stepped.0 ∙ counted);
            charged_is = ap (λ (x : Checking). x.charged) e ∙ charged_on;
            kept_is = ap (λ (x : Checking). x.kept) e ∙ rw accessed_is;
            stores_are =
                ap (λ (x : Checking). x.stores) e
                ∙ cc (
                  store_held,
                  store_new (plain_of k m₀) n,
                  stores_on (plain_of k m₀) n 0,
                  stores_on (plain_of k m₀) n 1,
                  ap (λ (x : Stores). x.first) here.stores_are,
                  ap (λ (x : Stores). x.second) here.stores_are,
                );
          }
        where
          stepped : ((step (held c m)).machine ≡ (step now).machine) × (through no_window (step (held c m)).memory ≡ through no_window (step now).memory)
          stepped =
              let b = step_bare now seen_now in (
                ap (λ (x : Plain). (step x).machine) held_is ∙ sym (ap (λ (x : Plain). x.machine) b),
                ap (λ (x : Plain). through no_window (step x).memory) held_is ∙ sym (ap (λ (x : Plain). through no_window x.memory) b),
              )

          counted : (step now).machine.count ≡ suc n
          counted = count_stepped now runs ∙ omega (arith, here.count_is, ap (λ (x : Machine). x.count) here.machine_is)

-- A check, line by line: what holds before each line, and what the verdict is where it ends.
use Prim.Native.Nat.{ℕ, zero, suc, ◌+◌, ◌-◌, ◌*◌, ◌≤◌, ◌<◌}
use Rattle.std.specs.Prelude.{Result, Ok, Err, Bool, ◌||◌, List, ◌≡◌, eqb, ltb, length, drop}
use Rattle.std.proofs.Math.Bool.{true, false}
use Rattle.std.proofs.Common.{sym, ◌∙◌, subst, length-drop, length-append, drop-drop}
use Rattle.std.proofs.Math.Path.{refl, ap}
use native.Mathlib.Omega.{arith}
use borrow.Author.Tests.{ltb-false, eq-eqb, ne_eqb, leb-true, leb-false}
use Rattle.std.proofs.Math.Dec.{leb}
use Rattle.machine.specs.declared.Machine.{Machine}
use Rattle.machine.specs.Types.{no_window}
use Rattle.machine.specs.Types.{is_bad}
use Rattle.machine.specs.Memory.{Memory, through}
use Rattle.machine.specs.Plain.{Plain, plain_of, executed, accessed, is_stopped, steps}
use Rattle.machine.specs.Runs.{size_refused, window_refused}
use Rattle.clocked.specs.Prediction.{Core}
use Rattle.clocked.specs.Charges.{charges, due}
use Rattle.clocked.specs.Record.{none_kept}
use Rattle.laws.specs.Tests.{neither}
use Rattle.laws.specs.Window.{steps_keep}
use Rattle.account.specs.Statement.{kept_of}
use Rattle.account.proofs.Timing.{due_most}
use Rattle.trace.specs.Text.{plain_line}
use Rattle.trace.specs.declared.Kind.{Kind}
use Rattle.trace.specs.declared.Kind.TheVariants.{NotDue as not_due, Overwritten as overwritten}
use Rattle.trace.specs.declared.Verdict.{Verdict}
use Rattle.trace.specs.Verdict.{accepted, wrong_by, written_into, begins, judged, trace_limit, verdict}
use Rattle.trace.proofs.Exact.{begins_only, line_some}
use Rattle.checking.specs.declared.Checking.{Checking}
use Rattle.checking.specs.Stores.{no_store, store_before, stores_before}
use Rattle.checking.specs.State.{held, charged_next, line_due, Open, passed_on, Checked, no_line, written, differs, right}
use Rattle.checking.specs.Follows.{Here, line_is, written_is, here_on}

-- where a check starts
unfoldable pub at_start : Machine → Checking
at_start k =
    record { machine = k; charged = 0; kept = none_kept; stores = record { first = no_store; second = no_store; third = no_store }; at = 0 }

charges_most : (g : Core) (s : Plain) (n : ℕ) → charges g s n ≤ 3 * n
unfolding charges due
charges_most g s zero = omega arith
charges_most g s (suc n) = omega (arith, due_most g s n)

-- THE VERDICT ON WHAT IS LEFT
module _ (g : Core) (s : Plain) (n : ℕ) (text : List ℕ) where
  judged_none : (left : ℕ) → length text ≡ 0 → judged g s left n text ≡ accepted n
  unfolding judged
  judged_none zero h = rw (eq-eqb (length text) 0 h)
  judged_none (suc left) h = rw (eq-eqb (length text) 0 h)

  module _ (some : 0 < length text) where
    not_none : eqb (length text) 0 ≡ false
    not_none = ne_eqb (length text) 0 (λ e. omega arith)

    judged_behind : (left : ℕ) → left ≡ trace_limit - n → (is_stopped (steps s n) || leb trace_limit n) ≡ true → judged g s left n text ≡ wrong_by not_due n
    unfolding judged
    judged_behind zero e h = rw not_none
    judged_behind (suc left) e h = rw (not_none, go (is_stopped (steps s n)) refl)
      where
        go : (b : Bool) → is_stopped (steps s n) ≡ b → is_stopped (steps s n) ≡ true
        go true q = q
        go false q =
            let z : leb trace_limit n ≡ true = cc in
            absurd (omega (arith, leb-true trace_limit n z))

    module _ (left : ℕ) (r : is_stopped (steps s n) ≡ false) where
      judged_written : written_into s n ≡ true → judged g s (suc left) n text ≡ wrong_by overwritten n
      unfolding judged
      judged_written h = rw (not_none, r, h)

      judged_differs : written_into s n ≡ false → begins (plain_line g s n) text ≡ false → judged g s (suc left) n text ≡ wrong_by not_due n
      unfolding judged
      judged_differs h b = rw (not_none, r, h, b)

      judged_right : written_into s n ≡ false → begins (plain_line g s n) text ≡ true → judged g s (suc left) n text ≡ judged g s left (suc n) (drop (length (plain_line g s n)) text)
      unfolding judged
      judged_right h b = rw (not_none, r, h, b)

-- BEFORE EACH LINE
module _ (g : Core) (k : Machine) (m₀ : Memory) (trace : List ℕ) where
  pub record Goes (c : Checking) (m : Memory) : Type 0 where
    pub here : Here g k m₀ c.machine.count c m
    pub place : c.at ≤ length trace
    pub few : c.machine.count ≤ 65536
    pub left : judged g (plain_of k m₀) (trace_limit - c.machine.count) c.machine.count (drop c.at trace) ≡ verdict g (plain_of k m₀) trace

  pub goes_open : (c : Checking) (m : Memory) → Goes c m → Open c trace
  goes_open c m h =
      record {
        place = h.place;
        few = h.few;
        cheap = omega (arith, h.here.charged_is, h.few, charges_most g (plain_of k m₀) c.machine.count);
      }

  pub goes_window : (c : Checking) (m : Memory) → Goes c m → c.machine.window ≡ k.window
  goes_window c m h = ap (λ (x : Machine). x.window) h.here.machine_is ∙ (steps_keep (plain_of k m₀) c.machine.count).1

  pub goes_first : k.count ≡ 0 → m₀ ≡ through no_window m₀ → Goes (at_start k) m₀
  unfolding at_start verdict steps charges kept_of stores_before store_before
  goes_first e w =
      record {
        here = rw e (record { machine_is = refl; memory_is = w; count_is = refl; charged_is = refl; kept_is = refl; stores_are = refl });
        place = omega arith;
        few = omega arith;
        left = rw e;
      }

  -- what an end tells
  abbrev pub Ends : (v : Verdict) (m : Memory) → Type 0
  Ends v m = (v ≡ verdict g (plain_of k m₀) trace) × (m ≡ through no_window (steps (plain_of k m₀) v.right).memory)

  pub goes_end : (c : Checking) (m : Memory) → Goes c m → length trace ≤ c.at → Ends (accepted c.machine.count) m
  goes_end c m h e =
      let none : length (drop c.at trace) ≡ 0 = omega (arith, length-drop c.at trace) in
      (sym (judged_none g (plain_of k m₀) c.machine.count (drop c.at trace) (trace_limit - c.machine.count) none) ∙ h.left, h.here.memory_is)

  -- ONE LINE
  module _ (c : Checking) (r : Result Checking Kind) (m m' : Memory) (h : Goes c m) (more : c.at < length trace) where
    abbrev n : ℕ
    n = c.machine.count

    abbrev text : List ℕ
    text = drop c.at trace

    some : 0 < length text
    some = omega (arith, length-drop c.at trace)

    stopped_is : is_bad c.machine.status ≡ is_stopped (steps (plain_of k m₀) n)
    unfolding is_stopped
    stopped_is = ap (λ (x : Machine). is_bad x.status) h.here.machine_is

    runs : is_bad c.machine.status || leb 65536 n ≡ false → is_stopped (steps (plain_of k m₀) n) ≡ false
    runs e = sym stopped_is ∙ (neither (is_bad c.machine.status) (leb 65536 n) e).0

    below : is_bad c.machine.status || leb 65536 n ≡ false → trace_limit - n ≡ suc (trace_limit - suc n)
    below e = omega (arith, leb-false 65536 n (neither (is_bad c.machine.status) (leb 65536 n) e).1)

    wrong_line : (kind : Kind) → m' ≡ m → judged g (plain_of k m₀) (trace_limit - n) n text ≡ wrong_by kind n → Ends (wrong_by kind n) m'
    wrong_line kind f j = (sym j ∙ h.left, f ∙ h.here.memory_is)

    pub goes_wrong : (kind : Kind) → r ≡ Err kind → Checked g trace c m r m' → Ends (wrong_by kind n) m'
    goes_wrong kind z (no_line b e f) =
        let same : not_due ≡ kind = cc in
        subst (λ (x : Kind). Ends (wrong_by x n) m') same
        (wrong_line not_due f (judged_behind g (plain_of k m₀) n text some (trace_limit - n) refl (ap (λ (x : Bool). x || leb 65536 n) (sym stopped_is) ∙ b)))
    goes_wrong kind z (written b w e f) =
        let same : overwritten ≡ kind = cc in
        subst (λ (x : Kind). Ends (wrong_by x n) m') same
        (wrong_line overwritten f
        (ap (λ (x : ℕ). judged g (plain_of k m₀) x n text) (below b)
        ∙ judged_written g (plain_of k m₀) n text some (trace_limit - suc n) (runs b) (sym (written_is g k m₀ n c m h.here (runs b)) ∙ w)))
    goes_wrong kind z (differs b w d e f) =
        let same : not_due ≡ kind = cc in
        subst (λ (x : Kind). Ends (wrong_by x n) m') same
        (wrong_line not_due f
        (ap (λ (x : ℕ). judged g (plain_of k m₀) x n text) (below b)
        ∙ judged_differs g (plain_of k m₀) n text some (trace_limit - suc n) (runs b) (sym (written_is g k m₀ n c m h.here (runs b)) ∙ w)
        (ap (λ (l : List ℕ). begins l text) (sym (line_is g k m₀ n c m h.here (runs b))) ∙ d)))
    goes_wrong kind z (right b w d e f) = absurd (cc)

    -- the place behind a right line
    module _ (b : is_bad c.machine.status || leb 65536 n ≡ false) (d : begins (line_due g c m) text ≡ true) where
      line_same : line_due g c m ≡ plain_line g (plain_of k m₀) n
      line_same = line_is g k m₀ n c m h.here (runs b)

      begins_so : begins (plain_line g (plain_of k m₀) n) text ≡ true
      begins_so = ap (λ (l : List ℕ). begins l text) (sym line_same) ∙ d

      behind_it : c.at + length (line_due g c m) ≤ length trace
      behind_it =
          omega (
            arith,
            ap length line_same,
            ap length (begins_only (plain_line g (plain_of k m₀) n) text begins_so),
            length-append (plain_line g (plain_of k m₀) n) (drop (length (plain_line g (plain_of k m₀) n)) text),
            length-drop c.at trace,
          )

      further : c.at < c.at + length (line_due g c m)
      further = omega (arith, ap length line_same, line_some g (plain_of k m₀) n)

    pub goes_on_lem : (next : Checking) → r ≡ Ok next → Checked g trace c m r m' → Goes next m' × (c.at < next.at)
    unfolding passed_on
    goes_on_lem next z (no_line b e f) = absurd (cc)
    goes_on_lem next z (written b w e f) = absurd (cc)
    goes_on_lem next z (differs b w d e f) = absurd (cc)
    goes_on_lem next z (right b w d e f) =
        let made : next ≡ passed_on c m (executed (held c m)) (accessed (held c m)) (charged_next g c m) (c.at + length (line_due g c m)) = cc in
        let on : Here g k m₀ (suc n) next m' = here_on g k m₀ n c m h.here (runs b) m' next _ made f in
        let count : next.machine.count ≡ suc n = on.count_is in
        let place : next.at ≡ c.at + length (line_due g c m) = ap (λ (y : Checking). y.at) made in
        let line : length (line_due g c m) ≡ length (plain_line g (plain_of k m₀) n) = ap length (line_same b d) in
        let right_one =
        judged_right g (plain_of k m₀) n text some (trace_limit - suc n) (runs b) (sym (written_is g k m₀ n c m h.here (runs b)) ∙ w) (begins_so b d) in
        let sum : c.at + length (plain_line g (plain_of k m₀) n) ≡ next.at = omega arith in
        let dropped : drop (length (plain_line g (plain_of k m₀) n)) text ≡ drop next.at trace =
        drop-drop (length (plain_line g (plain_of k m₀) n)) c.at trace ∙ ap (λ (i : ℕ). drop i trace) sum in (
          record {
            here = subst (λ (i : ℕ). Here g k m₀ i next m') (sym count) on;
            place = omega (arith, behind_it b d);
            few = omega (arith, below b);
            left =
                ap (λ (i : ℕ). judged g (plain_of k m₀) (trace_limit - i) i (drop next.at trace)) count
                ∙ (ap (judged g (plain_of k m₀) (trace_limit - suc n) (suc n)) (sym dropped)
                ∙ (sym right_one ∙ (ap (λ (i : ℕ). judged g (plain_of k m₀) i n text) (sym (below b)) ∙ h.left)));
          },
          omega (arith, further b d),
        )

    -- no line counts past the limit: a right one goes on from a count that is below it, a wrong one leaves the record
    pub counted : (next : Checking) → r ≡ Ok next → Checked g trace c m r m' → next.machine.count ≤ 65536
    counted next z p = (goes_on_lem next z p).0.few

-- what a check starts from is not refused: the size and the window stay so
pub record Fresh (k : Machine) (bytes : List ℕ) : Type 0 where
  pub none_performed : k.count ≡ 0
  pub size_fits : size_refused (length bytes) ≡ false
  pub window_fits : window_refused k.window (length bytes) ≡ false

pub size_most : (n : ℕ) → size_refused n ≡ false → n ≤ 65536
unfolding size_refused
size_most n h = ltb-false 65536 n (neither (eqb n 0) (ltb 65536 n) h).1

-- The checker accepts exactly the traces that, within the premise, are the first lines of the plain engine's run with its cycles.
use Prim.Native.Nat.{ℕ, zero, suc, ◌+◌, ◌-◌, ◌≤◌, ◌<◌}
use Rattle.std.specs.Prelude.{Some, Bool, cond, not, ◌&&◌, ◌||◌, ◌↔◌, ◌≡◌}
use Rattle.std.proofs.Math.Bool.{true, false, true≢false}
use mathlib.Core.List.{List, [], ◌∷◌, ◌++◌, append-nil, append_assoc}
use Rattle.std.proofs.Math.Path.{refl, ap, sym}
use Rattle.std.proofs.Common.{◌∙◌}
use native.Mathlib.Omega.{arith}
use borrow.Author.Tests.{eqb-true, eq-eqb, ne_eqb}
use Rattle.std.proofs.Math.Dec.{eqb}
use Rattle.std.proofs.Math.ListN.{length, drop, length-append}
use Rattle.std.proofs.Math.Seq.{drop_at}
use Rattle.machine.specs.Types.{is_set}
use Rattle.machine.specs.Plain.{Plain, is_stopped, steps}
use Rattle.clocked.specs.Prediction.{Core}
use Rattle.clocked.specs.Premise.{Premise}
use Rattle.account.specs.Decide.{clear, all, untouched, asked}
use Rattle.account.proofs.Decide.{decided}
use Rattle.account.proofs.Timing.{up_to}
use Rattle.text.specs.Decimal.{decimal_some}
use Rattle.trace.specs.Line.{trace_line}
use Rattle.trace.specs.Text.{plain_line, plain_text}
use Rattle.trace.specs.declared.Kind.{Kind}
use Rattle.trace.specs.declared.Kind.TheVariants.{NotDue as not_due, Overwritten as overwritten}
use Rattle.trace.specs.Verdict.{Verdict, accepted, wrong_by, written_into, begins, judged, trace_limit, verdict}
use Rattle.trace.specs.Exact.{Right, Says, Within, Wrong, all_right, behind_stop, beyond, differs, first_wrong, written}

-- A TEXT THAT BEGINS WITH A LINE
both : (a b : Bool) → a && b ≡ true → (a ≡ true) × (b ≡ true)
both true b h = (refl, h)
both false b h = (h, cc)

pub begins_only : (l t : List ℕ) → begins l t ≡ true → t ≡ l ++ drop (length l) t
unfolding begins
begins_only [] t h = refl
begins_only (x ∷ l) [] h = absurd (true≢false (sym h))
begins_only (x ∷ l) (y ∷ t) h =
    let p = both (eqb x y) (begins l t) h in
    let e = eqb-true x y p.0 in
    let rest = begins_only l t p.1 in
    cc

begins_if : (l r : List ℕ) → begins l (l ++ r) ≡ true
unfolding begins
begins_if [] r = refl
begins_if (x ∷ l) r = rw (eq-eqb x x refl) (begins_if l r)

-- a line has a byte
pub line_some : (g : Core) (s : Plain) (n : ℕ) → 0 < length (plain_line g s n)
unfolding plain_line trace_line
line_some g s n = simp length-append (omega (arith, decimal_some (suc n)))

none_within : (s : Plain) → Within s 0
none_within s = record { few = omega arith; performed = λ k h. absurd (omega arith); premise = λ o j n a b c. absurd (omega arith) }

asked_more : (a b c : Bool) → a || b ≡ true → not (a || c) ≡ false → a || (c && b) ≡ true
asked_more true b c h k = refl
asked_more false b true h k = h
asked_more false b false h k = absurd (true≢false k)

asked_one : (a b c : Bool) → a || (c && b) ≡ true → not (a || c) ≡ false
asked_one true b c h = refl
asked_one false b true h = refl
asked_one false b false h = absurd (true≢false (sym h))

one_more : (s : Plain) (n : ℕ) → Within s n → suc n ≤ trace_limit → is_stopped (steps s n) ≡ false → written_into s n ≡ false → Within s (suc n)
unfolding written_into asked untouched all
one_more s n w l r h =
    record {
      few = l;
      performed = up_to n w.performed r;
      premise = (decided s (suc n)).0 (asked_more (is_set s.memory.window) (untouched 3 s n) (clear 3 s n) ((decided s n).1 w.premise) h);
    }

-- and of each of them the checker finds so
none_written : (s : Plain) (n k : ℕ) → k < n → Premise s n → written_into s k ≡ false
unfolding written_into asked untouched all
none_written s n k h u =
    asked_one (is_set s.memory.window) (untouched 3 s k) (clear 3 s k) ((decided s (suc k)).1 (λ o j i a b c. u o j i a b (omega arith)))

-- the kind of its own: the premise holds up to instruction n, and not up to the next
pub written_breaks : (s : Plain) (n : ℕ) → Premise s n → (written_into s n ≡ true) ↔ (Premise s (suc n) → ⊥)
unfolding written_into asked untouched all
written_breaks s n u = (λ h v. true≢false (sym h ∙ none_written s (suc n) n (omega arith) v), λ b. go (written_into s n) refl b)
  where
    go : (b : Bool) → written_into s n ≡ b → (Premise s (suc n) → ⊥) → written_into s n ≡ true
    go true e b = e
    go false e b =
        absurd (b ((decided s (suc n)).0 (asked_more (is_set s.memory.window) (untouched 3 s n) (clear 3 s n) ((decided s n).1 u) e)))

not_none : (text : List ℕ) → 0 < length text → eqb (length text) 0 ≡ false
not_none text h = ne_eqb (length text) 0 (λ e. omega arith)

module _ (g : Core) (s : Plain) where
  -- the lines from line n + 1 on
  unfoldable lines_from : (n count : ℕ) → List ℕ
  lines_from n zero = []
  lines_from n (suc k) = plain_line g s n ++ lines_from (suc n) k

  joined : (n k : ℕ) → plain_text g s (n + k) ≡ plain_text g s n ++ lines_from n k
  unfolding plain_text lines_from
  joined n zero =
      let z : n + 0 ≡ n = omega arith in
      rw z (sym (append-nil (plain_text g s n)))
  joined n (suc k) =
      let z : n + suc k ≡ suc n + k = omega arith in
      rw z (joined (suc n) k ∙ append_assoc (plain_text g s n) (plain_line g s n) (lines_from (suc n) k))

  module _ (trace : List ℕ) where
    -- how far the checker has come: n lines are right, and the text is what is left
    record Far (left n : ℕ) (text : List ℕ) : Type 0 where
      within : Within s n
      whole : trace ≡ plain_text g s n ++ text
      enough : left + n ≡ trace_limit

    further : (left n : ℕ) (text : List ℕ) → Far (suc left) n text → is_stopped (steps s n) ≡ false → written_into s n ≡ false → begins (plain_line g s n) text ≡ true
        → Far left (suc n) (drop (length (plain_line g s n)) text)
    unfolding plain_text
    further left n text f r h b =
        let rest = drop (length (plain_line g s n)) text in
        record {
          within = one_more s n f.within (omega arith) r h;
          whole =
              f.whole
              ∙ (ap (λ (x : List ℕ). plain_text g s n ++ x) (begins_only (plain_line g s n) text b) ∙ sym (append_assoc (plain_text g s n) (plain_line g s n) rest));
          enough = omega arith;
        }

    ended : (left n : ℕ) (text : List ℕ) → Far left n text → eqb (length text) 0 ≡ true → Says g s trace (accepted n)
    ended left n [] f h = all_right n (record { within = f.within; text = f.whole ∙ append-nil (plain_text g s n) })
    ended left n (x ∷ text) f h = absurd (omega (arith, eqb-true (suc (length text)) 0 h))

    some : (text : List ℕ) → eqb (length text) 0 ≡ false → 0 < length text
    some [] h = absurd (true≢false h)
    some (x ∷ text) h = omega arith

    wrong : (left n : ℕ) (kind : Kind) (text : List ℕ) → Far left n text → eqb (length text) 0 ≡ false → Wrong g s n text kind → Says g s trace (wrong_by kind n)
    wrong left n kind text f h w = first_wrong n kind text f.within f.whole (some text h) w

    says : (left n : ℕ) (text : List ℕ) → Far left n text → Says g s trace (judged g s left n text)
    unfolding judged
    says zero n text f = go (eqb (length text) 0) refl
      where
        go : (b : Bool) → eqb (length text) 0 ≡ b → Says g s trace (cond b (accepted n) (wrong_by not_due n))
        go true e = ended zero n text f e
        go false e = wrong zero n not_due text f e (beyond (omega arith))
    says (suc left) n text f =
        go (eqb (length text) 0) refl (is_stopped (steps s n)) refl (written_into s n) refl (begins (plain_line g s n) text) refl
        (λ r h b. says left (suc n) (drop (length (plain_line g s n)) text) (further left n text f r h b))
      where
        next : Verdict
        next = judged g s left (suc n) (drop (length (plain_line g s n)) text)

        go : (a : Bool) → eqb (length text) 0 ≡ a → (b : Bool) → is_stopped (steps s n) ≡ b → (c : Bool) → written_into s n ≡ c → (d : Bool) → begins (plain_line g s n) text ≡ d
            → (is_stopped (steps s n) ≡ false → written_into s n ≡ false → begins (plain_line g s n) text ≡ true → Says g s trace next)
            → Says g s trace (cond a (accepted n) (cond b (wrong_by not_due n) (cond c (wrong_by overwritten n) (cond d next (wrong_by not_due n)))))
        go true e b f1 c f2 d f3 on = ended (suc left) n text f e
        go false e true r c f2 d f3 on = wrong (suc left) n not_due text f e (behind_stop r)
        go false e false r true h d f3 on = wrong (suc left) n overwritten text f e (written (omega arith) r h)
        go false e false r false h true b on = on r h b
        go false e false r false h false b on = wrong (suc left) n not_due text f e (differs r h b)

    -- SOUND: what the verdict says is so
    pub sound : Says g s trace (verdict g s trace)
    unfolding verdict plain_text
    sound = says trace_limit 0 trace (record { within = none_within s; whole = refl; enough = omega arith })

  -- THE ONLY ONE: lines that are right are passed
  passes : (k left n : ℕ) (rest : List ℕ) → Within s (n + k) → judged g s (k + left) n (lines_from n k ++ rest) ≡ judged g s left (n + k) rest
  unfolding judged lines_from
  passes zero left n rest w =
      let y : 0 + left ≡ left = omega arith in
      let z : n + 0 ≡ n = omega arith in
      rw (y, z)
  passes (suc k) left n rest w =
      let line = plain_line g s n in
      let text = lines_from (suc n) k ++ rest in
      let y : suc k + left ≡ suc (k + left) = omega arith in
      let z : suc n + k ≡ n + suc k = omega arith in
      let long : length (line ++ text) ≡ 0 → ⊥ = λ e. omega (arith, line_some g s n, length-append line text) in
      let within : Within s (suc n + k) = rw z w in
      rw (
        y,
        append_assoc line (lines_from (suc n) k) rest,
        ne_eqb (length (line ++ text)) 0 long,
        w.performed n (omega arith),
        none_written s (n + suc k) n (omega arith) w.premise,
        begins_if line text,
        drop_at line text (length line) refl,
      )
      (passes k left (suc n) rest within ∙ ap (λ (m : ℕ). judged g s left m rest) z)

  found : (trace : List ℕ) (n : ℕ) (rest : List ℕ) → Within s n → trace ≡ plain_text g s n ++ rest → verdict g s trace ≡ judged g s (trace_limit - n) n rest
  unfolding verdict plain_text
  found trace n rest w e =
      let z : 0 + n ≡ n = omega arith in
      let y : n + (trace_limit - n) ≡ trace_limit = omega (arith, w.few) in
      let within : Within s (0 + n) = rw z w in
      let f : trace ≡ lines_from 0 n ++ rest = e ∙ ap (λ (x : List ℕ). x ++ rest) (ap (plain_text g s) (sym z) ∙ joined 0 n) in
      ap (judged g s trace_limit 0) f
      ∙ (ap (λ (m : ℕ). judged g s m 0 (lines_from 0 n ++ rest)) (sym y)
      ∙ (passes n (trace_limit - n) 0 rest within ∙ ap (λ (m : ℕ). judged g s (trace_limit - n) m rest) z))

  faulty : (left n : ℕ) (kind : Kind) (rest : List ℕ) → left ≡ trace_limit - n → 0 < length rest → Wrong g s n rest kind → judged g s left n rest ≡ wrong_by kind n
  unfolding judged
  faulty zero n kind rest z l (beyond h) = rw (not_none rest l)
  faulty (suc left) n kind rest z l (beyond h) = absurd (omega arith)
  faulty zero n kind rest z l (behind_stop r) = rw (not_none rest l)
  faulty (suc left) n kind rest z l (behind_stop r) = rw (not_none rest l, r)
  faulty zero n kind rest z l (written q r h) = absurd (omega arith)
  faulty (suc left) n kind rest z l (written q r h) = rw (not_none rest l, r, h)
  faulty zero n kind rest z l (differs r h b) = rw (not_none rest l)
  faulty (suc left) n kind rest z l (differs r h b) = rw (not_none rest l, r, h, b)

  ends : (left n : ℕ) → judged g s left n [] ≡ accepted n
  unfolding judged
  ends zero n = refl
  ends (suc left) n = refl

  -- what is said truly of a trace is the verdict: so no two different things are
  pub only : (trace : List ℕ) (v : Verdict) → Says g s trace v → verdict g s trace ≡ v
  only trace v (all_right n r) =
      found trace n [] r.within (r.text ∙ sym (append-nil (plain_text g s n))) ∙ ends (trace_limit - n) n
  only trace v (first_wrong n kind rest w e l f) = found trace n rest w e ∙ faulty (trace_limit - n) n kind rest refl l f

  -- EXACTLY: accepted are the traces that, within the premise, are the first lines of the plain run with its cycles
  pub accepts_exactly : (trace : List ℕ) → ((verdict g s trace).line ≡ 0) ↔ ((n : ℕ) × Right g s trace n)
  accepts_exactly trace =
      (λ h. by (verdict g s trace) h (sound trace), λ r. ap (λ (v : Verdict). v.line) (only trace (accepted r.0) (all_right r.0 r.1)))
    where
      by : (v : Verdict) → v.line ≡ 0 → Says g s trace v → (n : ℕ) × Right g s trace n
      by v h (all_right n r) = (n, r)
      by v h (first_wrong n kind rest w e l f) = absurd (omega arith)

  -- "With a window set" no line is wrong by the kind of its own
  pub windowed_never : is_set s.memory.window ≡ true → (trace : List ℕ) → (verdict g s trace).kind ≡ Some overwritten → ⊥
  unfolding written_into
  windowed_never w trace h = by (verdict g s trace) h (sound trace)
    where
      one : (n : ℕ) (kind : Kind) (rest : List ℕ) → kind ≡ overwritten → Wrong g s n rest kind → ⊥
      one n kind rest e (beyond q) = cc
      one n kind rest e (behind_stop r) = cc
      one n kind rest e (written q r f) = true≢false (sym f ∙ rw w)
      one n kind rest e (differs r f b) = cc

      by : (v : Verdict) → v.kind ≡ Some overwritten → Says g s trace v → ⊥
      by v e (all_right n r) = cc
      by v e (first_wrong n kind rest u q l f) = one n kind rest (cc) f

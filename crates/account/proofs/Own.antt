-- The pipeline's own account, premise or not: from a fresh start the k-th retirement is in cycle k + 4 plus the record's own kinds so far.
-- The proof is the timing half of the relation alone, with the instructions that the pipeline itself holds.
use Prim.Native.Nat.{ℕ, zero, suc, ◌+◌, ◌≤◌}
use Rattle.std.specs.Prelude.{Bool, ◌≡◌}
use Rattle.std.proofs.Math.Bool.{true, false}
use Rattle.std.proofs.Common.{true≢false, sym, ◌∙◌, subst}
use Rattle.std.proofs.Math.Path.{refl, ap}
use native.Mathlib.Omega.{arith}
use Rattle.account.specs.Names.{Instruction, Decoded, Executed, Accessed, Retired, Kept, none_kept, last_kept}
use Rattle.account.specs.Names.{StageD, bubble_d, in_d, bubble_e, in_e, bubble_m, in_m, bubble_w, in_w}
use Rattle.machine.specs.Types.{is_bad}
use Rattle.machine.specs.Table.{is, ret}
use Rattle.machine.specs.Stages.{decode, execute, access, source_b, patches}
use Rattle.clocked.specs.Prediction.{Core, mispredicted}
use Rattle.clocked.specs.Charges.{no_kinds, amount, reason_behind, reason_from, retired_of}
use Rattle.clocked.specs.Pipeline.{Piped, pipe_start, after_m, handed_a, executing, waits, mispredicts, fails, cancels, ret_in_e, ret_in_m, bad_in_w, fetched_now}
use Rattle.clocked.specs.Pipeline.{source, retired_after, kinds_after, kept_after, advanced, stopped_in, clock, clocks}
use Rattle.account.specs.Statement.{Start, piped_from}
use Rattle.account.proofs.Laws
use Rattle.account.proofs.Laws.{bit}
use Rattle.account.proofs.Signals
use Rattle.account.proofs.Signals.{waits_for}
use Rattle.account.proofs.Timing.{total, total_counted}
use Rattle.clock_laws.specs.Stops.{clock_still}
use Rattle.account.proofs.Retirement.{Books, clock_bubble, clock_retires, clock_stops, books_retires, books_stops}

-- as an executed instruction will retire that does not write into the window
abbrev retiring : Executed → Retired
retiring x = record { instruction = x.instruction; holds = x.holds; patched = false }

-- the cycle in which j is due behind the instruction k, which is due in cycle b
behind : Core → Kept → ℕ → Instruction → ℕ
behind g k b j = b + 1 + amount (reason_from g k j)

behind_by : (g : Core) (k : Retired) (b : ℕ) (j : Instruction) (n : ℕ) → amount (reason_behind g k j) ≡ n → behind g (last_kept k) b j ≡ b + 1 + n
unfolding behind reason_from
behind_by g k b j n h = omega arith

-- The levels, each behind an instruction k that is due in cycle b. Nothing is claimed behind an instruction that fails.
module _ (g : Core) (p : Piped) (c : ℕ) where
  data OwnD (k : Kept) (b : ℕ) : Type 0 where
    empty_d : p.pipeline.d ≡ bubble_d → ((j : Instruction) → behind g k b j ≡ c + 5) → OwnD k b
    full_d : (i : Instruction) → p.pipeline.d ≡ in_d i → behind g k b i ≡ c + 4 + bit (waits g p) → OwnD k b

  data BehindE (x : Decoded) (b : ℕ) : Type 0 where
    goes_e : mispredicts g p ≡ false → is ret x.instruction ≡ false → OwnD (last_kept (retiring (execute x p.pipeline.codes))) b → BehindE x b
    wrong_e : mispredicts g p ≡ true → BehindE x b
    ret_e : is ret x.instruction ≡ true → p.pipeline.d ≡ bubble_d → BehindE x b

  data OwnE (k : Kept) (b : ℕ) : Type 0 where
    empty_e : p.pipeline.e ≡ bubble_e → OwnD k b → OwnE k b
    full_e : (x : Decoded) → executing g p ≡ in_e x → behind g k b x.instruction ≡ c + 3 → BehindE x (behind g k b x.instruction) → OwnE k b

  data BehindM (x : Executed) (b : ℕ) : Type 0 where
    goes_m : is ret x.instruction ≡ false → OwnE (last_kept (retiring x)) b → BehindM x b
    ret_m : is ret x.instruction ≡ true → p.pipeline.e ≡ bubble_e → p.pipeline.d ≡ bubble_d → BehindM x b

  data OwnM (k : Kept) (b : ℕ) : Type 0 where
    empty_m : p.pipeline.m ≡ bubble_m → OwnE k b → OwnM k b
    full_m : (x : Executed) → p.pipeline.m ≡ in_m x → behind g k b x.instruction ≡ c + 2 → (fails p ≡ false → BehindM x (behind g k b x.instruction))
        → OwnM k b

  data OwnW (k : Kept) (b : ℕ) : Type 0 where
    empty_w : p.pipeline.w ≡ bubble_w → OwnM k b → OwnW k b
    full_w : (w : Accessed) → p.pipeline.w ≡ in_w w → behind g k b w.instruction ≡ c + 1
        → (is_bad w.status ≡ false → OwnM (last_kept (retired_of w)) (behind g k b w.instruction)) → OwnW k b

-- ONE CLOCK
module _ (g : Core) (p : Piped) (c : ℕ) where
  -- what is known of E and M when an instruction may stand in D
  record Decoding : Type 0 where
    whole : cancels p ≡ false
    right : mispredicts g p ≡ false
    stays_e : ret_in_e p.pipeline.e ≡ false
    stays_m : ret_in_m p.pipeline.m ≡ false

  -- the instruction i goes from D to E, and another is fetched behind it
  module _ (v : Decoding) (i : Instruction) (h : p.pipeline.d ≡ in_d i) (w : waits g p ≡ false) (b : ℕ) (t : b ≡ c + 4) where
    x' : Decoded
    x' =
        record {
          instruction = i;
          a = handed_a g (after_m (advanced g p).pipeline.m (advanced g p).memory) (decode i (source g p));
          b = source g p (source_b i);
        }

    e' : executing g (advanced g p) ≡ in_e x'
    unfolding x' decode
    e' = Signals.executing_of g (advanced g p) (decode i (source g p)) (Signals.e_of g p i v.whole w v.right h)

    fetch_behind : mispredicts g (advanced g p) ≡ false → is ret i ≡ false
        → OwnD g (advanced g p) (suc c) (last_kept (retiring (execute x' (advanced g p).pipeline.codes))) b
    unfolding x' behind reason_from decode execute waits_for
    fetch_behind m r =
        full_d (fetched_now g p) d'
        (omega (
          arith,
          Laws.behind_other g (retiring (execute x' (advanced g p).pipeline.codes)) (fetched_now g p) refl
              (sym (Signals.mispredicts_of g (advanced g p) x' e') ∙ m) r,
          ap bit (Signals.waits_next g p (fetched_now g p) v.whole w v.right d'),
          ap (λ (d : StageD). bit (waits_for g d (fetched_now g p))) h,
        ))
      where
        d' : (advanced g p).pipeline.d ≡ in_d (fetched_now g p)
        d' = Signals.d_next g p (fetched_now g p) v.whole w v.right (Signals.returns_none g p (Signals.ret_d_in g p i h ∙ r) v.stays_e v.stays_m) refl

    behind_e : BehindE g (advanced g p) (suc c) x' b
    unfolding x' decode
    behind_e = go (mispredicts g (advanced g p)) (is ret i) refl refl
      where
        go : (y r : Bool) → mispredicts g (advanced g p) ≡ y → is ret i ≡ r → BehindE g (advanced g p) (suc c) x' b
        go true r m q = wrong_e m
        go false true m q = ret_e q (Signals.d_returning g p w (Signals.returns_d g p (Signals.ret_d_in g p i h ∙ q)))
        go false false m q = goes_e m q (fetch_behind m q)

  into_e : Decoding → (k : Kept) (b : ℕ) → OwnD g p c k b → OwnE g (advanced g p) (suc c) k b
  unfolding bit x' decode
  into_e v k b (empty_d h f) = empty_e e (full_d (fetched_now g p) d (omega (arith, f (fetched_now g p), ap bit (Signals.waits_bubble_e g (advanced g p) e))))
    where
      w : waits g p ≡ false
      w = Signals.waits_bubble_d g p h

      e : (advanced g p).pipeline.e ≡ bubble_e
      e = Signals.e_bubble g p h

      d : (advanced g p).pipeline.d ≡ in_d (fetched_now g p)
      d = Signals.d_next g p (fetched_now g p) v.whole w v.right (Signals.returns_none g p (Signals.ret_d_bubble g p h) v.stays_e v.stays_m) refl
  into_e v k b (full_d i h t) = go (waits g p) refl
    where
      go : (y : Bool) → waits g p ≡ y → OwnE g (advanced g p) (suc c) k b
      go true w =
          let e = Signals.e_waiting g p w in
          empty_e e (full_d i (Signals.d_held g p v.whole v.right w ∙ h) (omega (arith, ap bit w, ap bit (Signals.waits_bubble_e g (advanced g p) e))))
      go false w =
          let z : behind g k b i ≡ c + 4 = omega (arith, ap bit w) in
          full_e (x' v i h w (behind g k b i) z) (e' v i h w (behind g k b i) z) (omega arith) (behind_e v i h w (behind g k b i) z)

  into_m : cancels p ≡ false → ret_in_m p.pipeline.m ≡ false → fails p ≡ false → (k : Kept) (b : ℕ) → OwnE g p c k b → OwnM g (advanced g p) (suc c) k b
  unfolding execute
  into_m z r f k b (empty_e h d) =
      empty_m (Signals.m_bubble g p h) (into_e (record { whole = z; right = Signals.mispredicts_bubble g p h; stays_e = Signals.ret_e_bubble g p h; stays_m = r }) k b d)
  into_m z r f k b (full_e x h t a) = full_m (execute x p.pipeline.codes) (Signals.m_of g p x h z f) (omega arith) (λ _. moved a)
    where
      b' : ℕ
      b' = behind g k b x.instruction

      k' : Retired
      k' = retiring (execute x p.pipeline.codes)

      moved : BehindE g p c x b' → BehindM g (advanced g p) (suc c) (execute x p.pipeline.codes) b'
      moved (goes_e m q d) = goes_m q (into_e (record { whole = z; right = m; stays_e = Signals.ret_e_in g p x h ∙ q; stays_m = r }) (last_kept k') b' d)
      moved (wrong_e m) = goes_m (Laws.wrong_stays g k' wrong).0 (empty_e (Signals.e_mispredicted g p m) (empty_d (Signals.d_mispredicted g p m) late))
        where
          wrong : mispredicted g x.instruction (execute x p.pipeline.codes).holds ≡ true
          wrong = sym (Signals.mispredicts_of g p x h) ∙ m

          late : (j : Instruction) → behind g (last_kept k') b' j ≡ suc c + 5
          late j = behind_by g k' b' j 2 (Laws.behind_wrong g k' j refl wrong (Laws.conditional g x p.pipeline.codes wrong)) ∙ omega arith
      moved (ret_e q d) =
          ret_m q (Signals.e_bubble g p d) (Signals.d_returning g p (Signals.waits_bubble_d g p d) (Signals.returns_e g p (Signals.ret_e_in g p x h ∙ q)))

  into_w : (k : Kept) (b : ℕ) → OwnM g p c k b → OwnW g (advanced g p) (suc c) k b
  unfolding access retired_of
  into_w k b (empty_m h e) =
      empty_w (Signals.w_bubble g p h) (into_m (Signals.cancels_bubble g p h) (Signals.ret_m_bubble g p h) (Signals.fails_bubble g p h) k b e)
  into_w k b (full_m x h t a) =
      full_w (access x p.memory) (Signals.w_of g p x h) (omega arith) (λ s. split (Signals.fails_of g p x h ∙ s) (patches x p.memory) refl)
    where
      b' : ℕ
      b' = behind g k b x.instruction

      moved : cancels p ≡ false → fails p ≡ false → BehindM g p c x b' → OwnM g (advanced g p) (suc c) (last_kept (retiring x)) b'
      moved z f (goes_m q e) = into_m z (Signals.ret_m_in g p x h ∙ q) f (last_kept (retiring x)) b' e
      moved z f (ret_m q e d) =
          empty_m (Signals.m_bubble g p e)
          (empty_e (Signals.e_bubble g p d)
          (empty_d (Signals.d_returning g p (Signals.waits_bubble_d g p d) (Signals.returns_m g p (Signals.ret_m_in g p x h ∙ q)))
          (λ j. behind_by g (retiring x) b' j 3 (Laws.behind_return g (retiring x) j refl q) ∙ omega arith)))

      -- a store into the window leaves nothing behind it
      split : fails p ≡ false → (y : Bool) → patches x p.memory ≡ y → OwnM g (advanced g p) (suc c) (last_kept (retired_of (access x p.memory))) b'
      split f true y =
          let z : cancels p ≡ true = Signals.cancels_of g p x h ∙ y in
          empty_m (Signals.m_cancelled g p z)
          (empty_e (Signals.e_cancelled g p z)
          (empty_d (Signals.d_cancelled g p z)
          (λ j. behind_by g (retired_of (access x p.memory)) b' j 3 (Laws.behind_patched g (retired_of (access x p.memory)) j y) ∙ omega arith)))
      split f false y =
          subst (λ (r : Bool). OwnM g (advanced g p) (suc c) (last_kept (record { instruction = x.instruction; holds = x.holds; patched = r })) b') (sym y)
          (moved (Signals.cancels_of g p x h ∙ y) f (a f))

-- THE RECORD
-- the cycle that its own counts say: "k + 4 plus the charges"
unfoldable pub accounted : Piped → ℕ
accounted p = p.pipeline.retired + 4 + total p.pipeline.kinds

within : (p : Piped) → p.pipeline.cycles ≡ accounted p → p.pipeline.retired + total p.pipeline.kinds ≤ p.pipeline.cycles
unfolding accounted
within p e = omega arith

-- while it runs, the levels behind the last retired; at a stop, that one was on time
data Own (g : Core) (p : Piped) : Type 0 where
  running : is_bad p.pipeline.status ≡ false → p.pipeline.retired + total p.pipeline.kinds ≤ p.pipeline.cycles
      → (c : ℕ) (k : Kept) (b : ℕ) → p.pipeline.cycles ≡ c → p.pipeline.kept ≡ k → accounted p ≡ b → OwnW g p c k b → Own g p
  stopped : is_bad p.pipeline.status ≡ true → p.pipeline.cycles ≡ accounted p → Own g p

-- what one clock makes of it: if an instruction retires in it, its cycle is the one accounted
record Next (g : Core) (p p' : Piped) : Type 0 where
  own : Own g p'
  on_account : p'.pipeline.retired ≡ p.pipeline.retired + 1 → p'.pipeline.cycles ≡ accounted p'

module _ (g : Core) (p : Piped) (c : ℕ) (y : p.pipeline.cycles ≡ c) where
  -- a retirement counts and charges what its instruction was due by
  books_account : (p' : Piped) (w : Accessed) → Books g p p' w → behind g p.pipeline.kept (accounted p) w.instruction ≡ c + 1
      → (accounted p' ≡ behind g p.pipeline.kept (accounted p) w.instruction) × (p'.pipeline.cycles ≡ accounted p')
  unfolding accounted behind
  books_account p' w k t =
      let e : accounted p' ≡ behind g p.pipeline.kept (accounted p) w.instruction
      = omega (arith, k.retired, ap total k.kinds, total_counted p.pipeline.kinds (reason_from g p.pipeline.kept w.instruction)) in
      (e, omega (arith, k.counts))

  next_bubble : p.pipeline.retired + total p.pipeline.kinds ≤ c → p.pipeline.w ≡ bubble_w → OwnM g p c p.pipeline.kept (accounted p)
      → Next g p (advanced g p)
  unfolding advanced retired_after kinds_after kept_after accounted is_bad
  next_bubble l h a =
      record {
        own =
            running refl (omega (arith, same_retired, ap total same_kinds)) (suc c) p.pipeline.kept (accounted p)
            (omega arith) (cc) (cc (same_retired, same_kinds)) (into_w g p c p.pipeline.kept (accounted p) a);
        on_account = λ e. absurd (omega (arith, same_retired));
      }
    where
      same_retired : (advanced g p).pipeline.retired ≡ p.pipeline.retired
      same_retired = cc

      same_kinds : (advanced g p).pipeline.kinds ≡ p.pipeline.kinds
      same_kinds = cc

  next_retires : (w : Accessed) → p.pipeline.w ≡ in_w w → behind g p.pipeline.kept (accounted p) w.instruction ≡ c + 1
      → OwnM g p c (last_kept (retired_of w)) (behind g p.pipeline.kept (accounted p) w.instruction) → Next g p (advanced g p)
  unfolding advanced kept_after is_bad
  next_retires w h t a =
      let k = books_retires g p w h in
      let e = books_account (advanced g p) w k t in
      let b = behind g p.pipeline.kept (accounted p) w.instruction in
      record {
        own =
            running refl (within (advanced g p) e.1) (suc c) (last_kept (retired_of w)) b
            (omega (arith, k.counts)) (cc) e.0 (into_w g p c (last_kept (retired_of w)) b a);
        on_account = λ _. e.1;
      }

  next_stops : (w : Accessed) → is_bad w.status ≡ true → behind g p.pipeline.kept (accounted p) w.instruction ≡ c + 1 → Next g p (stopped_in g p w)
  unfolding stopped_in
  next_stops w s t =
      let e = books_account (stopped_in g p w) w (books_stops g p w) t in
      record { own = stopped s e.1; on_account = λ _. e.1 }

own_next : (g : Core) (p : Piped) → Own g p → Next g p (clock g p)
own_next g p (stopped h e) = subst (λ (z : Piped). Next g p z) (sym (clock_still g p h)) (record { own = stopped h e; on_account = λ z. absurd (omega arith) })
own_next g p (running h l c k b y v e o) = go (subst (λ (z : Kept). OwnW g p c z (accounted p)) (sym v) (subst (λ (z : ℕ). OwnW g p c k z) (sym e) o))
  where
    go : OwnW g p c p.pipeline.kept (accounted p) → Next g p (clock g p)
    go (empty_w w a) = subst (λ (z : Piped). Next g p z) (sym (clock_bubble g p h w)) (next_bubble g p c y (omega arith) w a)
    go (full_w w x t a) = by (is_bad w.status) refl
      where
        by : (s : Bool) → is_bad w.status ≡ s → Next g p (clock g p)
        by true s = subst (λ (z : Piped). Next g p z) (sym (clock_stops g p h w x s)) (next_stops g p c y w s t)
        by false s = subst (λ (z : Piped). Next g p z) (sym (clock_retires g p h w x s)) (next_retires g p c y w x t (a s))

-- FROM A FRESH START, after any number of clocks, whatever the memory holds
module _ (g : Core) (t : Start) where
  own_start : Own g (piped_from t)
  unfolding piped_from pipe_start accounted total no_kinds is_bad behind reason_from amount
  own_start = running refl (omega arith) 0 none_kept 4 refl refl refl (empty_w refl (empty_m refl (empty_e refl (empty_d refl (λ j. refl)))))

  own_clocks : (c : ℕ) → Own g (clocks g (piped_from t) c)
  unfolding clocks
  own_clocks zero = own_start
  own_clocks (suc c) = (own_next g (clocks g (piped_from t) c) (own_clocks c)).own

  -- the instruction that retires in a clock, as the k-th, does so in cycle k + 4 plus the kinds so far, its own charge with them
  pub on_account : (c : ℕ) → (clocks g (piped_from t) (suc c)).pipeline.retired ≡ (clocks g (piped_from t) c).pipeline.retired + 1
      → (clocks g (piped_from t) (suc c)).pipeline.cycles ≡ accounted (clocks g (piped_from t) (suc c))
  unfolding clocks
  on_account c = (own_next g (clocks g (piped_from t) c) (own_clocks c)).on_account

  -- so the counts never pass the cycles
  pub counts_within : (c : ℕ)
      → (clocks g (piped_from t) c).pipeline.retired + total (clocks g (piped_from t) c).pipeline.kinds ≤ (clocks g (piped_from t) c).pipeline.cycles
  counts_within c = go (clocks g (piped_from t) c) (own_clocks c)
    where
      go : (p : Piped) → Own g p → p.pipeline.retired + total p.pipeline.kinds ≤ p.pipeline.cycles
      go p (running h l c k b y v e o) = l
      go p (stopped h e) = within p e

-- while an instruction stands in D, behind no wrong guess and no failure, no return stands in E or M
module _ (g : Core) (p : Piped) (c : ℕ) (m : mispredicts g p ≡ false) (i : Instruction) (d : p.pipeline.d ≡ in_d i) where
  settled_e : (k : Kept) (b : ℕ) → OwnE g p c k b → ret_in_e p.pipeline.e ≡ false
  settled_e k b (empty_e h _) = Signals.ret_e_bubble g p h
  settled_e k b (full_e x h t (goes_e _ q _)) = Signals.ret_e_in g p x h ∙ q
  settled_e k b (full_e x h t (wrong_e w)) = absurd (true≢false (sym w ∙ m))
  settled_e k b (full_e x h t (ret_e q z)) = absurd (true≢false (cc))

  settled_m : fails p ≡ false → (k : Kept) (b : ℕ) → OwnM g p c k b → (ret_in_e p.pipeline.e ≡ false) × (ret_in_m p.pipeline.m ≡ false)
  settled_m f k b (empty_m h e) = (settled_e k b e, Signals.ret_m_bubble g p h)
  settled_m f k b (full_m x h t a) = go (a f)
    where
      go : BehindM g p c x (behind g k b x.instruction) → (ret_in_e p.pipeline.e ≡ false) × (ret_in_m p.pipeline.m ≡ false)
      go (goes_m q e) = (settled_e _ _ e, Signals.ret_m_in g p x h ∙ q)
      go (ret_m q _ z) = absurd (true≢false (cc))

  settled_w : bad_in_w p.pipeline.w ≡ false → fails p ≡ false → (k : Kept) (b : ℕ) → OwnW g p c k b
      → (ret_in_e p.pipeline.e ≡ false) × (ret_in_m p.pipeline.m ≡ false)
  unfolding bad_in_w
  settled_w s f k b (empty_w h a) = settled_m f k b a
  settled_w s f k b (full_w w h t a) = settled_m f _ _ (a (sym (ap bad_in_w h) ∙ s))

pub settled : (g : Core) (t : Start) (c : ℕ) → is_bad (clocks g (piped_from t) c).pipeline.status ≡ false
    → bad_in_w (clocks g (piped_from t) c).pipeline.w ≡ false → fails (clocks g (piped_from t) c) ≡ false
    → (i : Instruction) → (clocks g (piped_from t) c).pipeline.d ≡ in_d i → mispredicts g (clocks g (piped_from t) c) ≡ false
    → (ret_in_e (clocks g (piped_from t) c).pipeline.e ≡ false) × (ret_in_m (clocks g (piped_from t) c).pipeline.m ≡ false)
settled g t c r s f i d m = go (own_clocks g t c)
  where
    go : Own g (clocks g (piped_from t) c)
        → (ret_in_e (clocks g (piped_from t) c).pipeline.e ≡ false) × (ret_in_m (clocks g (piped_from t) c).pipeline.m ≡ false)
    go (running _ _ c' k b _ _ _ o) = settled_w g (clocks g (piped_from t) c) c' m i d s f k b o
    go (stopped h _) = absurd (true≢false (sym h ∙ r))

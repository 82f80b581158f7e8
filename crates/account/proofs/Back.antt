-- One clock read backwards: what stood in each stage before, by what stands in it now. The controls alone, whatever memory holds.
use Rattle.std.specs.Prelude.{◌+◌, Bool, not, ◌&&◌, ◌||◌, ◌⊎◌, ◌≡◌}
use Rattle.std.proofs.Math.Bool.{true, false, cond, true≢false}
use Rattle.std.proofs.Math.Logic.{inl, inr}
use Rattle.std.proofs.Math.Path.{refl, sym}
use Rattle.std.proofs.Common.{ap, ◌∙◌, arith}
use Rattle.account.specs.Names.{adr, Instruction, Decoded, Executed, Accessed, Retired, last_kept}
use Rattle.account.specs.Names.{StageD, bubble_d, in_d, StageE, bubble_e, in_e, StageM, bubble_m, in_m, StageW, bubble_w, in_w}
use Rattle.machine.specs.Types.{is_bad}
use Rattle.machine.specs.Table.{is, ret}
use Rattle.machine.specs.Memory.{Memory, inside}
use Rattle.machine.specs.Stages.{decode, execute, access, access_address, access_status, loads, stores}
use Rattle.clocked.specs.Prediction.{Core}
use Rattle.clocked.specs.Charges.{retired_of}
use Rattle.clocked.specs.Pipeline.{Piped, after_e, after_m, handed, executing, decoded_d, waits, mispredicts, returns, ret_in_e, ret_in_m, bad_in_w, fails, patched_in_w, cancels}
use Rattle.clocked.specs.Pipeline.{fetched_now, next_d, next_e, next_m, retired_after, kept_after, advanced, stopped_in, clock_by, clock}
use Rattle.account.proofs.Signals
use Rattle.account.proofs.Retirement.{clock_stops}

-- an access fails, or leaves the status that the instruction was fetched with
pub access_status_lem : (x : Executed) (m : Memory) → ((access x m).status ≡ adr) ⊎ ((access x m).status ≡ x.instruction.status)
unfolding access access_status
access_status_lem x m = go ((loads x.instruction || stores x.instruction) && not (inside m (access_address x))) refl
  where
    go : (b : Bool) → (loads x.instruction || stores x.instruction) && not (inside m (access_address x)) ≡ b
        → ((access x m).status ≡ adr) ⊎ ((access x m).status ≡ x.instruction.status)
    go true f = inl (cc)
    go false f = inr (cc)

module _ (g : Core) (p : Piped) where
  pub w_back : (y : Accessed) → (advanced g p).pipeline.w ≡ in_w y → (x : Executed) × (p.pipeline.m ≡ in_m x) × (y ≡ access x p.memory)
  unfolding advanced after_m
  w_back y h = go p.pipeline.m refl h
    where
      go : (m : StageM) → p.pipeline.m ≡ m → after_m m p.memory ≡ in_w y → (x : Executed) × (p.pipeline.m ≡ in_m x) × (y ≡ access x p.memory)
      go bubble_m e h = absurd (true≢false (cc))
      go (in_m x) e h = (x, e, cc)

  -- what stands in W has the status that it was fetched with, or failed at its access
  pub status_back : (y : Accessed) → (advanced g p).pipeline.w ≡ in_w y → (y.status ≡ adr) ⊎ (y.status ≡ y.instruction.status)
  unfolding access
  status_back y h =
      let b = w_back y h in
      go b.0 b.2 (access_status_lem b.0 p.memory)
    where
      go : (x : Executed) → y ≡ access x p.memory → ((access x p.memory).status ≡ adr) ⊎ ((access x p.memory).status ≡ x.instruction.status)
          → (y.status ≡ adr) ⊎ (y.status ≡ y.instruction.status)
      go x e (inl z) = inl (ap (λ (w : Accessed). w.status) e ∙ z)
      go x e (inr z) = inr (ap (λ (w : Accessed). w.status) e ∙ (z ∙ sym (ap (λ (w : Accessed). w.instruction.status) e)))

  pub w_gone : (advanced g p).pipeline.w ≡ bubble_w → p.pipeline.m ≡ bubble_m
  unfolding advanced after_m
  w_gone h = go p.pipeline.m refl h
    where
      go : (m : StageM) → p.pipeline.m ≡ m → after_m m p.memory ≡ bubble_w → p.pipeline.m ≡ bubble_m
      go bubble_m e h = e
      go (in_m x) e h = absurd (true≢false (cc))

  pub m_back : (y : Executed) → (advanced g p).pipeline.m ≡ in_m y → (x : Decoded) × (p.pipeline.e ≡ in_e x) × (x.instruction ≡ y.instruction)
  unfolding advanced next_m after_e execute executing handed
  m_back y h = go (cancels p || fails p) p.pipeline.e refl h
    where
      go : (b : Bool) (z : StageE) → p.pipeline.e ≡ z
          → cond b bubble_m (after_e (handed g (after_m p.pipeline.m p.memory) z) p.pipeline.codes) ≡ in_m y
          → (x : Decoded) × (p.pipeline.e ≡ in_e x) × (x.instruction ≡ y.instruction)
      go true z e h = absurd (true≢false (cc))
      go false bubble_e e h = absurd (true≢false (cc))
      go false (in_e x) e h = (x, e, cc)

  pub m_gone : (advanced g p).pipeline.m ≡ bubble_m → cancels p ≡ false → fails p ≡ false → p.pipeline.e ≡ bubble_e
  unfolding advanced next_m after_e executing handed
  m_gone h c f = go p.pipeline.e refl
    where
      go : (z : StageE) → p.pipeline.e ≡ z → p.pipeline.e ≡ bubble_e
      go bubble_e e = e
      go (in_e x) e = absurd (true≢false (cc))

  pub e_back : (y : Decoded) → (advanced g p).pipeline.e ≡ in_e y
      → (cancels p ≡ false) × (mispredicts g p ≡ false) × (waits g p ≡ false) × (p.pipeline.d ≡ in_d y.instruction)
  unfolding advanced next_e decoded_d decode
  e_back y h = go (cancels p) (mispredicts g p) (waits g p) p.pipeline.d refl refl refl refl h
    where
      go : (c a b : Bool) (z : StageD) → cancels p ≡ c → mispredicts g p ≡ a → waits g p ≡ b → p.pipeline.d ≡ z
          → cond (c || (a || b)) bubble_e (decoded_d g p z) ≡ in_e y
          → (cancels p ≡ false) × (mispredicts g p ≡ false) × (waits g p ≡ false) × (p.pipeline.d ≡ in_d y.instruction)
      go true a b z k m w e h = absurd (true≢false (cc))
      go false true b z k m w e h = absurd (true≢false (cc))
      go false false true z k m w e h = absurd (true≢false (cc))
      go false false false bubble_d k m w e h = absurd (true≢false (cc))
      go false false false (in_d i) k m w e h = (k, m, w, cc)

  pub e_gone : (advanced g p).pipeline.e ≡ bubble_e → cancels p ≡ false → mispredicts g p ≡ false → waits g p ≡ false → p.pipeline.d ≡ bubble_d
  unfolding advanced next_e decoded_d
  e_gone h k m w = go p.pipeline.d refl
    where
      go : (z : StageD) → p.pipeline.d ≡ z → p.pipeline.d ≡ bubble_d
      go bubble_d e = e
      go (in_d i) e = absurd (true≢false (cc (Signals.e_of g p i k w m e)))

  -- it waited in D, or it was fetched
  abbrev pub HeldOrFetched : Instruction → Type 0
  HeldOrFetched i = ((waits g p ≡ true) × (p.pipeline.d ≡ in_d i)) ⊎ ((waits g p ≡ false) × (fetched_now g p ≡ i))

  pub d_back : (i : Instruction) → (advanced g p).pipeline.d ≡ in_d i → (cancels p ≡ false) × (mispredicts g p ≡ false) × HeldOrFetched i
  unfolding advanced next_d
  d_back i h = go (cancels p) (mispredicts g p) (waits g p) (returns p) refl refl refl h
    where
      go : (k a b c : Bool) → cancels p ≡ k → mispredicts g p ≡ a → waits g p ≡ b
          → cond (k || a) bubble_d (cond b p.pipeline.d (cond c bubble_d (in_d (fetched_now g p)))) ≡ in_d i
          → (cancels p ≡ false) × (mispredicts g p ≡ false) × HeldOrFetched i
      go true a b c z m w h = absurd (true≢false (cc))
      go false true b c z m w h = absurd (true≢false (cc))
      go false false true c z m w h = (z, m, inl (w, h))
      go false false false true z m w h = absurd (true≢false (cc))
      go false false false false z m w h = (z, m, inr (w, cc))

  pub d_gone : (advanced g p).pipeline.d ≡ bubble_d → cancels p ≡ false → mispredicts g p ≡ false → waits g p ≡ false → returns p ≡ true
  d_gone h k m w = go (returns p) refl
    where
      go : (b : Bool) → returns p ≡ b → returns p ≡ true
      go true e = e
      go false e = absurd (true≢false (cc (Signals.d_next g p (fetched_now g p) k w m e refl)))

  -- one waits behind an instruction in E
  pub waits_full : waits g p ≡ true → p.pipeline.e ≡ bubble_e → ⊥
  waits_full w h = true≢false (sym w ∙ Signals.waits_bubble_e g p h)

  pub retires : (advanced g p).pipeline.retired ≡ p.pipeline.retired + 1
      → (y : Accessed) × (p.pipeline.w ≡ in_w y) × ((advanced g p).pipeline.kept ≡ last_kept (retired_of y))
  unfolding advanced retired_after kept_after
  retires h = go p.pipeline.w refl h
    where
      go : (z : StageW) → p.pipeline.w ≡ z → retired_after z p.pipeline.retired ≡ p.pipeline.retired + 1
          → (y : Accessed) × (p.pipeline.w ≡ in_w y) × (kept_after p.pipeline.w p.pipeline.kept ≡ last_kept (retired_of y))
      go bubble_w e h = absurd (omega arith)
      go (in_w y) e h = (y, e, cc)

  pub rests : (advanced g p).pipeline.retired ≡ p.pipeline.retired → p.pipeline.w ≡ bubble_w
  unfolding advanced retired_after
  rests h = go p.pipeline.w refl h
    where
      go : (z : StageW) → p.pipeline.w ≡ z → retired_after z p.pipeline.retired ≡ p.pipeline.retired → p.pipeline.w ≡ bubble_w
      go bubble_w e h = e
      go (in_w y) e h = absurd (omega arith)

-- a clock after which the machine runs
pub record Ran (g : Core) (p p' : Piped) : Type 0 where
  pub before : is_bad p.pipeline.status ≡ false
  pub on : p' ≡ advanced g p
  pub sound : bad_in_w p.pipeline.w ≡ false

pub ran : (g : Core) (p : Piped) → is_bad (clock g p).pipeline.status ≡ false → Ran g p (clock g p)
unfolding clock clock_by bad_in_w stopped_in
ran g p h = go (is_bad p.pipeline.status) p.pipeline.w refl refl h
  where
    by : (w : Accessed) (b : Bool) → is_bad p.pipeline.status ≡ false → p.pipeline.w ≡ in_w w → is_bad w.status ≡ b
        → is_bad (cond b (stopped_in g p w) (advanced g p)).pipeline.status ≡ false → Ran g p (cond b (stopped_in g p w) (advanced g p))
    by w true a e s h = absurd (true≢false (sym s ∙ h))
    by w false a e s h = record { before = a; on = refl; sound = ap bad_in_w e ∙ s }

    go : (b : Bool) (z : StageW) → is_bad p.pipeline.status ≡ b → p.pipeline.w ≡ z → is_bad (cond b p (clock_by g p z)).pipeline.status ≡ false
        → Ran g p (cond b p (clock_by g p z))
    go true z a e h = absurd (true≢false (sym a ∙ h))
    go false bubble_w a e h = record { before = a; on = refl; sound = ap bad_in_w e }
    go false (in_w w) a e h = by w (is_bad w.status) a e refl h

-- and one in which it stops
pub stopping_in : (g : Core) (p : Piped) → is_bad p.pipeline.status ≡ false → is_bad (clock g p).pipeline.status ≡ true
    → (w : Accessed) × (p.pipeline.w ≡ in_w w) × (clock g p ≡ stopped_in g p w)
unfolding clock clock_by advanced is_bad
stopping_in g p r h = go p.pipeline.w refl (sym (ap (λ (b : Bool). is_bad (cond b p (clock_by g p p.pipeline.w)).pipeline.status) r) ∙ h)
  where
    by : (w : Accessed) (b : Bool) → p.pipeline.w ≡ in_w w → is_bad w.status ≡ b → is_bad (cond b (stopped_in g p w) (advanced g p)).pipeline.status ≡ true
        → (w : Accessed) × (p.pipeline.w ≡ in_w w) × (clock g p ≡ stopped_in g p w)
    by w true e s h = (w, e, clock_stops g p r w e s)
    by w false e s h = absurd (true≢false (sym h))

    go : (z : StageW) → p.pipeline.w ≡ z → is_bad (clock_by g p z).pipeline.status ≡ true → (w : Accessed) × (p.pipeline.w ≡ in_w w) × (clock g p ≡ stopped_in g p w)
    go bubble_w e h = absurd (true≢false (sym h))
    go (in_w w) e h = by w (is_bad w.status) e refl h

-- FROM W BACK TO D: what retires in the fourth clock stood in D before the first
module _ (g : Core) (p0 p1 p2 p3 : Piped) (a1 : p1 ≡ advanced g p0) (a2 : p2 ≡ advanced g p1) (a3 : p3 ≡ advanced g p2) where
  pub record Came (i : Instruction) : Type 0 where
    pub x : Decoded
    pub in_e1 : p1.pipeline.e ≡ in_e x
    pub whole : cancels p0 ≡ false
    pub right : mispredicts g p0 ≡ false
    pub free : waits g p0 ≡ false
    pub in_d0 : p0.pipeline.d ≡ in_d i

  pub came : (y : Accessed) → p3.pipeline.w ≡ in_w y → Came y.instruction
  unfolding access
  came y h =
      let m = w_back g p2 y (sym (ap (λ (p : Piped). p.pipeline.w) a3) ∙ h) in
      let e = m_back g p1 m.0 (sym (ap (λ (p : Piped). p.pipeline.m) a2) ∙ m.1) in
      let d = e_back g p0 e.0 (sym (ap (λ (p : Piped). p.pipeline.e) a1) ∙ e.1) in
      record { x = e.0; in_e1 = e.1; whole = d.0; right = d.1; free = d.2; in_d0 = cc (d.3, e.2, m.2) }

  -- and where nothing does, D was empty, if nothing was held or thrown away
  pub empty : p3.pipeline.w ≡ bubble_w → cancels p1 ≡ false → fails p1 ≡ false → cancels p0 ≡ false → mispredicts g p0 ≡ false → waits g p0 ≡ false
      → p0.pipeline.d ≡ bubble_d
  empty h k f z m w =
      let m2 = w_gone g p2 (sym (ap (λ (p : Piped). p.pipeline.w) a3) ∙ h) in
      let e1 = m_gone g p1 (sym (ap (λ (p : Piped). p.pipeline.m) a2) ∙ m2) k f in
      e_gone g p0 (sym (ap (λ (p : Piped). p.pipeline.e) a1) ∙ e1) z m w

  -- a wait in the first leaves a bubble in W before the fourth
  pub gap : waits g p0 ≡ true → p3.pipeline.w ≡ bubble_w
  gap w =
      let e1 = ap (λ (p : Piped). p.pipeline.e) a1 ∙ Signals.e_waiting g p0 w in
      let m2 = ap (λ (p : Piped). p.pipeline.m) a2 ∙ Signals.m_bubble g p1 e1 in
      ap (λ (p : Piped). p.pipeline.w) a3 ∙ Signals.w_bubble g p2 m2

-- BACK TO THE FETCH of what retires in the fifth clock behind another in the fourth
module _ (g : Core) (p0 p1 p2 p3 p4 : Piped) (a1 : p1 ≡ advanced g p0) (a2 : p2 ≡ advanced g p1) (a3 : p3 ≡ advanced g p2) (a4 : p4 ≡ advanced g p3) where
  pub fetched_behind : (y : Accessed) → p4.pipeline.w ≡ in_w y → p4.pipeline.retired ≡ p3.pipeline.retired + 1
      → fetched_now g p0 ≡ y.instruction
  fetched_behind y h n4 =
      let w3 = retires g p3 (sym (ap (λ (p : Piped). p.pipeline.retired) a4) ∙ n4) in
      let d1 = (came g p1 p2 p3 p4 a2 a3 a4 y h).in_d0 in
      go w3.0 w3.1 (d_back g p0 y.instruction (sym (ap (λ (p : Piped). p.pipeline.d) a1) ∙ d1)).2
    where
      go : {i : Instruction} (z : Accessed) → p3.pipeline.w ≡ in_w z → HeldOrFetched g p0 i → fetched_now g p0 ≡ i
      go z h (inl v) = absurd (true≢false (cc (gap g p0 p1 p2 p3 a1 a2 a3 v.0)))
      go z h (inr v) = v.1

  -- ... and of what retires in the sixth, behind another in the fourth which is no return and no store into the window, and none in the fifth
  module _ (own : (i : Instruction) → p0.pipeline.d ≡ in_d i → mispredicts g p0 ≡ false
      → (ret_in_e p0.pipeline.e ≡ false) × (ret_in_m p0.pipeline.m ≡ false))
      (sound : fails p2 ≡ false) (r4 : Retired) (k4 : p4.pipeline.kept ≡ last_kept r4) (n4 : p4.pipeline.retired ≡ p3.pipeline.retired + 1)
      (stays : is ret r4.instruction ≡ false) (keeps : r4.patched ≡ false) where
    before : (z : Accessed) × (p3.pipeline.w ≡ in_w z) × (p4.pipeline.kept ≡ last_kept (retired_of z))
    before =
        let w3 = retires g p3 (sym (ap (λ (p : Piped). p.pipeline.retired) a4) ∙ n4) in
        (w3.0, w3.1, ap (λ (p : Piped). p.pipeline.kept) a4 ∙ w3.2)

    whole : cancels p2 ≡ false
    unfolding cancels patched_in_w advanced retired_of
    whole = sym (ap (λ (p : Piped). patched_in_w p.pipeline.w) a3) ∙ (ap patched_in_w before.1 ∙ cc before.2)

    -- so it had to wait
    held : p4.pipeline.w ≡ bubble_w → cancels p1 ≡ false → mispredicts g p1 ≡ false → waits g p1 ≡ false → ⊥
    unfolding retired_of
    held b c m w =
        let d1 = empty g p1 p2 p3 p4 a2 a3 a4 b whole sound c m w in
        let z = before in
        let here : z.0.instruction ≡ r4.instruction = cc z.2 in
        let v = came g p0 p1 p2 p3 a1 a2 a3 z.0 z.1 in
        let o = own z.0.instruction v.in_d0 v.right in
        let no = Signals.returns_none g p0 (Signals.ret_d_in g p0 z.0.instruction v.in_d0 ∙ (ap (is ret) here ∙ stays)) o.0 o.1 in
        let yes = d_gone g p0 (sym (ap (λ (p : Piped). p.pipeline.d) a1) ∙ d1) v.whole v.right v.free in
        true≢false (sym yes ∙ no)

    pub fetched_waiting : (p5 : Piped) → p5 ≡ advanced g p4 → (y : Accessed) → p5.pipeline.w ≡ in_w y → p5.pipeline.retired ≡ p4.pipeline.retired
        → fetched_now g p0 ≡ y.instruction
    fetched_waiting p5 a5 y h n5 =
        let b4 = rests g p4 (sym (ap (λ (p : Piped). p.pipeline.retired) a5) ∙ n5) in
        let d2 = (came g p2 p3 p4 p5 a3 a4 a5 y h).in_d0 in
        let d1 = d_back g p1 y.instruction (sym (ap (λ (p : Piped). p.pipeline.d) a2) ∙ d2) in
        first b4 d1.0 d1.1 d1.2
      where
        then : {i : Instruction} → waits g p1 ≡ true → HeldOrFetched g p0 i → fetched_now g p0 ≡ i
        then w (inl z) = absurd (waits_full g p1 w (ap (λ (p : Piped). p.pipeline.e) a1 ∙ Signals.e_waiting g p0 z.0))
        then w (inr z) = z.1

        first : {i : Instruction} → p4.pipeline.w ≡ bubble_w → cancels p1 ≡ false → mispredicts g p1 ≡ false → HeldOrFetched g p1 i → fetched_now g p0 ≡ i
        first {i} b c m (inl z) = then z.0 (d_back g p0 i (sym (ap (λ (p : Piped). p.pipeline.d) a1) ∙ z.1)).2
        first b c m (inr z) = absurd (held b c m z.0)

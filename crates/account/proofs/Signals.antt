-- The controls: what the signals are, and what stands in each stage after a clock, by what stood in it before. A changed control touches these.
use Rattle.std.specs.Prelude.{ℕ, Bool, cond, ◌&&◌, ◌||◌, ◌≡◌}
use Rattle.std.proofs.Math.Bool.{true, false}
use Rattle.std.proofs.Common.{true≢false, ap, sym, ◌∙◌}
use Rattle.std.proofs.Math.Path.{refl}
use Rattle.account.specs.Names.{Instruction, Decoded, Executed, Accessed}
use Rattle.account.specs.Names.{StageD, bubble_d, in_d, StageE, bubble_e, in_e, StageM, bubble_m, in_m, StageW, bubble_w, in_w}
use Rattle.machine.specs.Types.{is_bad}
use Rattle.machine.specs.Memory.{value}
use Rattle.machine.specs.Table.{is, ret}
use Rattle.machine.specs.Stages.{decode, execute, access, new_codes, new_memory, new_registers, loaded_target, source_a, source_b, turned, straight, patches}
use Rattle.machine.specs.Plain.{Plain, fetched, decoded, executed, accessed}
use Rattle.clocked.specs.Prediction.{Core, predicted_next, mispredicted, meets, load_use, takes_late, awaited_a}
use Rattle.clocked.specs.Pipeline.{Piped, after_e, after_m, handed_a, handed, executing, codes_after, memory_after, registers_after}
use Rattle.clocked.specs.Pipeline.{past_result, past_both, source_w, source_m, source, waits_behind, waits, wrong, mispredicts, ret_in_d, ret_in_e, ret_in_m, returns, bad_in_w, fails}
use Rattle.clocked.specs.Pipeline.{patched_in_w, cancels, restart, returned_to, mended, fetch_address, fetched_now, next_f, next_d, decoded_d, next_e, next_m, next_codes, advanced}
use Rattle.account.proofs.Laws.{or_true, wrong_at, patches_at}
use Rattle.laws.specs.Tests.{neither}

-- the instruction in D is one for which j has to wait
unfoldable pub waits_for : Core → StageD → Instruction → Bool
waits_for g bubble_d j = false
waits_for g (in_d i) j = load_use g i j

-- the instruction in E loads the register q
unfoldable pub loads_into : StageE → ℕ → Bool
loads_into bubble_e q = false
loads_into (in_e x) q = meets (loaded_target x.instruction) q

holds_one : StageE → Bool
holds_one bubble_e = false
holds_one (in_e x) = true

unfoldable ret_in_w : StageW → Bool
ret_in_w bubble_w = false
ret_in_w (in_w w) = is ret w.instruction

same : {A : Type 0} (b : Bool) (x : A) → cond b x x ≡ x
same true x = refl
same false x = refl

module _ (g : Core) (p : Piped) where
  -- THE WORK OF D, E AND M
  pub e_of : (i : Instruction) → cancels p ≡ false → waits g p ≡ false → mispredicts g p ≡ false → p.pipeline.d ≡ in_d i → (advanced g p).pipeline.e ≡ in_e (decode i (source g p))
  unfolding advanced next_e decoded_d
  e_of i z w m h = cc

  module _ (x : Decoded) (h : executing g p ≡ in_e x) where
    pub mispredicts_of : mispredicts g p ≡ mispredicted g x.instruction (execute x p.pipeline.codes).holds
    unfolding mispredicts wrong after_e execute
    mispredicts_of = cc

    pub m_of : cancels p ≡ false → fails p ≡ false → (advanced g p).pipeline.m ≡ in_m (execute x p.pipeline.codes)
    unfolding advanced next_m after_e
    m_of z f = cc

  module _ (x : Executed) (h : p.pipeline.m ≡ in_m x) where
    pub w_of : (advanced g p).pipeline.w ≡ in_w (access x p.memory)
    unfolding advanced after_m
    w_of = cc

    pub fails_of : fails p ≡ is_bad (access x p.memory).status
    unfolding fails bad_in_w after_m
    fails_of = cc

    pub cancels_of : cancels p ≡ patches x p.memory
    unfolding cancels patched_in_w after_m access
    cancels_of = cc

    -- what a store in E is handed
    pub handed_of : (y : Decoded) → handed_a g (after_m p.pipeline.m p.memory) y
        ≡ cond (takes_late g y.instruction && meets (loaded_target x.instruction) (source_a y.instruction)) (access x p.memory).word y.a
    unfolding handed_a after_m access
    handed_of y = cc

  -- what E works on is the instruction that stands there
  pub executing_of : (x : Decoded) → p.pipeline.e ≡ in_e x
      → executing g p ≡ in_e (record { instruction = x.instruction; a = handed_a g (after_m p.pipeline.m p.memory) x; b = x.b })
  unfolding executing handed
  executing_of x h = cc

  stands : (x : Decoded) → executing g p ≡ in_e x → (y : Decoded) × (p.pipeline.e ≡ in_e y) × (y.instruction ≡ x.instruction)
  unfolding executing handed holds_one
  stands x h = go p.pipeline.e refl h
    where
      go : (e : StageE) → p.pipeline.e ≡ e → handed g (after_m p.pipeline.m p.memory) e ≡ in_e x
          → (y : Decoded) × (p.pipeline.e ≡ in_e y) × (y.instruction ≡ x.instruction)
      go bubble_e q k = absurd (true≢false (sym (ap holds_one k)))
      go (in_e y) q k = (y, q, cc)

  -- ... on the plain engine's own values
  module _ (s : Plain) where
    -- valA may come late
    pub e_in : cancels p ≡ false → waits g p ≡ false → mispredicts g p ≡ false → p.pipeline.d ≡ in_d (fetched s)
        → handed_a g (after_m (advanced g p).pipeline.m (advanced g p).memory) (decode (fetched s) (source g p))
        ≡ value s.machine.registers (source_a (fetched s))
        → source g p (source_b (fetched s)) ≡ value s.machine.registers (source_b (fetched s)) → executing g (advanced g p) ≡ in_e (decoded s)
    unfolding decoded decode executing handed
    e_in z w m h a b = cc (e_of (fetched s) z w m h)

    module _ (h : executing g p ≡ in_e (decoded s)) (k : p.pipeline.codes ≡ s.machine.codes) where
      pub mispredicts_in : mispredicts g p ≡ wrong_at g s
      unfolding wrong_at executed execute
      mispredicts_in = cc (mispredicts_of (decoded s) h)

      pub source_in_lem : (q : ℕ) → source g p q ≡ past_result (in_m (executed s)) q (source_m p q)
      unfolding source after_e executed
      source_in_lem q = cc

      module _ (z : cancels p ≡ false) (f : fails p ≡ false) where
        pub m_in : (advanced g p).pipeline.m ≡ in_m (executed s)
        unfolding executed
        m_in = cc (m_of (decoded s) h z f)

        pub codes_in : (advanced g p).pipeline.codes ≡ new_codes (decoded s) s.machine.codes
        unfolding advanced next_codes codes_after
        codes_in = cc

    module _ (h : p.pipeline.m ≡ in_m (executed s)) (k : p.memory ≡ s.memory) where
      pub w_in : (advanced g p).pipeline.w ≡ in_w (accessed s)
      unfolding accessed
      w_in = cc (w_of (executed s) h)

      pub fails_in : fails p ≡ is_bad (accessed s).status
      unfolding accessed
      fails_in = cc (fails_of (executed s) h)

      pub cancels_in : cancels p ≡ patches_at s
      unfolding patches_at accessed access
      cancels_in = cc (cancels_of (executed s) h)

      pub source_m_in : (q : ℕ) → source_m p q ≡ past_both (in_w (accessed s)) q (source_w p q)
      unfolding source_m after_m accessed
      source_m_in q = cc

      pub memory_in : (advanced g p).memory ≡ new_memory (executed s) s.memory
      unfolding advanced memory_after
      memory_in = cc

  -- BUBBLES
  module _ (h : p.pipeline.w ≡ bubble_w) where
    pub registers_bubble : (advanced g p).pipeline.registers ≡ p.pipeline.registers
    unfolding advanced registers_after
    registers_bubble = cc

    pub source_w_bubble : (q : ℕ) → source_w p q ≡ value p.pipeline.registers q
    unfolding source_w past_both
    source_w_bubble q = cc

  module _ (h : p.pipeline.m ≡ bubble_m) where
    pub w_bubble : (advanced g p).pipeline.w ≡ bubble_w
    unfolding advanced after_m
    w_bubble = cc

    pub fails_bubble : fails p ≡ false
    unfolding fails bad_in_w after_m
    fails_bubble = cc

    pub cancels_bubble : cancels p ≡ false
    unfolding cancels patched_in_w after_m
    cancels_bubble = cc

    pub source_m_bubble : (q : ℕ) → source_m p q ≡ source_w p q
    unfolding source_m after_m past_both
    source_m_bubble q = cc

    pub handed_bubble : (y : Decoded) → handed_a g (after_m p.pipeline.m p.memory) y ≡ y.a
    unfolding handed_a after_m
    handed_bubble y = cc

    pub memory_bubble : (advanced g p).memory ≡ p.memory
    unfolding advanced memory_after
    memory_bubble = cc

    pub ret_m_bubble : ret_in_m p.pipeline.m ≡ false
    unfolding ret_in_m
    ret_m_bubble = cc

  module _ (h : p.pipeline.e ≡ bubble_e) where
    pub waits_bubble_e : waits g p ≡ false
    unfolding waits waits_behind
    waits_bubble_e = cc

    pub mispredicts_bubble : mispredicts g p ≡ false
    unfolding executing handed mispredicts wrong after_e
    mispredicts_bubble = cc

    pub m_bubble : (advanced g p).pipeline.m ≡ bubble_m
    unfolding executing handed advanced next_m after_e
    m_bubble = cc (same {A = StageM} (cancels p || fails p) bubble_m)

    pub codes_bubble : (advanced g p).pipeline.codes ≡ p.pipeline.codes
    unfolding executing handed advanced next_codes codes_after
    codes_bubble = cc (same (cancels p || fails p) p.pipeline.codes)

    pub source_bubble : (q : ℕ) → source g p q ≡ source_m p q
    unfolding executing handed source after_e past_result
    source_bubble q = cc

    pub ret_e_bubble : ret_in_e p.pipeline.e ≡ false
    unfolding ret_in_e
    ret_e_bubble = cc

  module _ (h : p.pipeline.d ≡ bubble_d) where
    pub waits_bubble_d : waits g p ≡ false
    unfolding waits waits_behind
    waits_bubble_d = rw h (go p.pipeline.e)
      where
        go : (e : StageE) → waits_behind g e bubble_d ≡ false
        go bubble_e = refl
        go (in_e x) = refl

    pub e_bubble : (advanced g p).pipeline.e ≡ bubble_e
    unfolding advanced next_e decoded_d
    e_bubble = cc (same {A = StageE} (cancels p || (mispredicts g p || waits g p)) bubble_e)

    pub ret_d_bubble : ret_in_d p.pipeline.d ≡ false
    unfolding ret_in_d
    ret_d_bubble = cc

  -- RETURNS
  pub ret_d_in : (i : Instruction) → p.pipeline.d ≡ in_d i → ret_in_d p.pipeline.d ≡ is ret i
  unfolding ret_in_d
  ret_d_in i h = cc

  pub ret_e_in : (x : Decoded) → executing g p ≡ in_e x → ret_in_e p.pipeline.e ≡ is ret x.instruction
  unfolding ret_in_e
  ret_e_in x h = let y = stands x h in cc (y.1, y.2)

  pub loads_into_in : (x : Decoded) (q : ℕ) → executing g p ≡ in_e x → loads_into p.pipeline.e q ≡ meets (loaded_target x.instruction) q
  unfolding loads_into
  loads_into_in x q h = let y = stands x h in cc (y.1, y.2)

  pub ret_m_in : (x : Executed) → p.pipeline.m ≡ in_m x → ret_in_m p.pipeline.m ≡ is ret x.instruction
  unfolding ret_in_m
  ret_m_in x h = cc

  pub returns_none : ret_in_d p.pipeline.d ≡ false → ret_in_e p.pipeline.e ≡ false → ret_in_m p.pipeline.m ≡ false → returns p ≡ false
  unfolding returns
  returns_none a b c = cc

  pub returns_d : ret_in_d p.pipeline.d ≡ true → returns p ≡ true
  unfolding returns
  returns_d a = cc

  pub returns_e : ret_in_e p.pipeline.e ≡ true → returns p ≡ true
  unfolding returns
  returns_e a = cc (or_true (ret_in_d p.pipeline.d))

  pub returns_m : ret_in_m p.pipeline.m ≡ true → returns p ≡ true
  unfolding returns
  returns_m a = cc (or_true (ret_in_d p.pipeline.d), or_true (ret_in_e p.pipeline.e))

  -- CONTROLLED: F, D, E and the codes
  pub f_held : cancels p ≡ false → waits g p ≡ true → (advanced g p).pipeline.predicted ≡ p.pipeline.predicted
  unfolding advanced next_f
  f_held z w = cc

  pub f_next : (i : Instruction) → cancels p ≡ false → waits g p ≡ false → returns p ≡ false → fetched_now g p ≡ i → (advanced g p).pipeline.predicted ≡ predicted_next g i
  unfolding advanced next_f
  f_next i z w r h = cc

  pub d_held : cancels p ≡ false → mispredicts g p ≡ false → waits g p ≡ true → (advanced g p).pipeline.d ≡ p.pipeline.d
  unfolding advanced next_d
  d_held z m w = cc

  pub d_mispredicted : mispredicts g p ≡ true → (advanced g p).pipeline.d ≡ bubble_d
  unfolding advanced next_d
  d_mispredicted h = cc (or_true (cancels p))

  pub d_returning : waits g p ≡ false → returns p ≡ true → (advanced g p).pipeline.d ≡ bubble_d
  unfolding advanced next_d
  d_returning w h = cc (same {A = StageD} (cancels p || mispredicts g p) bubble_d)

  pub d_next : (i : Instruction) → cancels p ≡ false → waits g p ≡ false → mispredicts g p ≡ false → returns p ≡ false → fetched_now g p ≡ i → (advanced g p).pipeline.d ≡ in_d i
  unfolding advanced next_d
  d_next i z w m r h = cc

  pub e_waiting : waits g p ≡ true → (advanced g p).pipeline.e ≡ bubble_e
  unfolding advanced next_e
  e_waiting h = cc (or_true (mispredicts g p), or_true (cancels p))

  pub e_mispredicted : mispredicts g p ≡ true → (advanced g p).pipeline.e ≡ bubble_e
  unfolding advanced next_e
  e_mispredicted h = cc (or_true (cancels p))

  pub codes_failing : fails p ≡ true → (advanced g p).pipeline.codes ≡ p.pipeline.codes
  unfolding advanced next_codes
  codes_failing h = cc (or_true (cancels p))

  -- CANCELLED: all that is younger than a store into the window
  module _ (z : cancels p ≡ true) where
    pub f_cancelled : (x : Executed) → p.pipeline.m ≡ in_m x → (advanced g p).pipeline.predicted ≡ straight x.instruction
    unfolding advanced next_f restart
    f_cancelled x h = cc

    pub d_cancelled : (advanced g p).pipeline.d ≡ bubble_d
    unfolding advanced next_d
    d_cancelled = cc

    pub e_cancelled : (advanced g p).pipeline.e ≡ bubble_e
    unfolding advanced next_e
    e_cancelled = cc

    pub m_cancelled : (advanced g p).pipeline.m ≡ bubble_m
    unfolding advanced next_m
    m_cancelled = cc

    pub codes_cancelled : (advanced g p).pipeline.codes ≡ p.pipeline.codes
    unfolding advanced next_codes
    codes_cancelled = cc

  -- RETIREMENT
  pub registers_in : (s : Plain) → p.pipeline.w ≡ in_w (accessed s) → p.pipeline.registers ≡ s.machine.registers
      → (advanced g p).pipeline.registers ≡ new_registers (accessed s) s.machine.registers
  unfolding advanced registers_after
  registers_in s h k = cc

  pub source_w_in : (w : Accessed) (q : ℕ) → p.pipeline.w ≡ in_w w → source_w p q ≡ past_both (in_w w) q (value p.pipeline.registers q)
  unfolding source_w
  source_w_in w q h = cc

  -- LOAD-USE: without a wait no source is being loaded
  pub unloaded : (i : Instruction) → p.pipeline.d ≡ in_d i → waits g p ≡ false
      → (loads_into p.pipeline.e (awaited_a g i) ≡ false) × (loads_into p.pipeline.e (source_b i) ≡ false)
  unfolding waits waits_behind load_use loads_into
  unloaded i h w = go p.pipeline.e p.pipeline.d h w
    where
      go : (e : StageE) (d : StageD) → d ≡ in_d i → waits_behind g e d ≡ false → (loads_into e (awaited_a g i) ≡ false) × (loads_into e (source_b i) ≡ false)
      go bubble_e d h w = (refl, refl)
      go (in_e x) d h w =
          let k : load_use g x.instruction i ≡ false = cc in
          neither (meets (loaded_target x.instruction) (awaited_a g i)) (meets (loaded_target x.instruction) (source_b i)) k

  -- the wait of the next clock, when the instruction i has been fetched
  pub waits_next : (i : Instruction) → cancels p ≡ false → waits g p ≡ false → mispredicts g p ≡ false → (advanced g p).pipeline.d ≡ in_d i
      → waits g (advanced g p) ≡ waits_for g p.pipeline.d i
  unfolding waits advanced waits_behind next_e decoded_d decode waits_for
  waits_next i z w m h = rw h (go p.pipeline.d (advanced g p).pipeline.e (cc))
    where
      go : (d : StageD) (e : StageE) → e ≡ decoded_d g p d → waits_behind g e (in_d i) ≡ waits_for g d i
      go bubble_d e q = cc
      go (in_d j) e q = cc

  -- THE FETCH ADDRESS
  at_predicted : wrong g p.pipeline.m ≡ false → ret_in_w p.pipeline.w ≡ false → fetch_address g p ≡ p.pipeline.predicted
  unfolding fetch_address wrong ret_in_w mended returned_to
  at_predicted a b = go_m p.pipeline.m (returned_to p.pipeline.w p.pipeline.predicted) a ∙ go_w p.pipeline.w b
    where
      go_m : (m : StageM) (f : ℕ) → wrong g m ≡ false → mended g m f ≡ f
      go_m bubble_m f a = refl
      go_m (in_m x) f a = cc

      go_w : (w : StageW) → ret_in_w w ≡ false → returned_to w p.pipeline.predicted ≡ p.pipeline.predicted
      go_w bubble_w b = refl
      go_w (in_w w) b = cc

  -- behind a bubble in M, where W has no return
  pub at_restarted : (w : Accessed) → p.pipeline.m ≡ bubble_m → p.pipeline.w ≡ in_w w → is ret w.instruction ≡ false
      → fetch_address g p ≡ p.pipeline.predicted
  unfolding wrong ret_in_w
  at_restarted w h k r = at_predicted (cc) (cc)

  pub at_mended : (x : Executed) → p.pipeline.m ≡ in_m x → mispredicted g x.instruction x.holds ≡ true
      → fetch_address g p ≡ turned x.instruction x.holds
  unfolding fetch_address mended
  at_mended x h k = cc

  pub at_returned : (w : Accessed) → p.pipeline.m ≡ bubble_m → p.pipeline.w ≡ in_w w → is ret w.instruction ≡ true → fetch_address g p ≡ w.word
  unfolding fetch_address mended returned_to
  at_returned w h k r = cc

  wrong_next : mispredicts g p ≡ false → wrong g (advanced g p).pipeline.m ≡ false
  unfolding advanced next_m mispredicts wrong
  wrong_next h = go (cancels p || fails p)
    where
      go : (b : Bool) → wrong g (cond b bubble_m (after_e (executing g p) p.pipeline.codes)) ≡ false
      go true = refl
      go false = h

  ret_next : ret_in_m p.pipeline.m ≡ false → ret_in_w (advanced g p).pipeline.w ≡ false
  unfolding advanced ret_in_m after_m access ret_in_w
  ret_next h = go p.pipeline.m h
    where
      go : (m : StageM) → ret_in_m m ≡ false → ret_in_w (after_m m p.memory) ≡ false
      go bubble_m h = refl
      go (in_m x) h = h

-- after a clock with neither, the next fetch is at the predicted address
pub at_next : (g : Core) (p : Piped) → mispredicts g p ≡ false → ret_in_m p.pipeline.m ≡ false
    → fetch_address g (advanced g p) ≡ (advanced g p).pipeline.predicted
at_next g p m r = at_predicted g (advanced g p) (wrong_next g p m) (ret_next g p r)

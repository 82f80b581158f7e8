-- One clock on the record taken apart is a clock of the definitions. Assumes nothing.
use mathlib.Core.Path.{◌≡◌, refl, ◌∙◌}
use mathlib.Core.Bool.{true, false}
use mathlib.Core.List.{List, ◌++◌}
use Prim.Native.Nat.{ℕ}
use Rattle.clocked.specs.declared.Settings.{Settings}
use Rattle.clocked.specs.declared.Pipeline.{Pipeline}
use Rattle.machine.specs.declared.Status.{Status}
use Rattle.machine.specs.declared.Blame.{Blame}
use Rattle.clocked.specs.Record.{StageD}
use Rattle.clocked.specs.Record.{bubble_d, in_d}
use Rattle.clocked.specs.Record.{StageW}
use Rattle.clocked.specs.Record.{bubble_w, in_w}
use Rattle.machine.specs.Types.{is_bad}
use Rattle.machine.specs.Memory.{Memory, Registers}
use Rattle.clocked.specs.Prediction.{core_of}
use Rattle.clocked.specs.Pipeline.{Piped, after_e, after_m, handed, executing, source, source_m, source_w, decoded_d, bad_in_w, memory_after, registers_after}
use Rattle.clocked.specs.Pipeline.{last_after, retired_after, kinds_after, logged, advanced, stopped_in, clock_by, clock, waits}
use Rattle.clocked.specs.Pipeline.{mispredicts, returns, fails, cancels, fetch_address, fetched_now, next_f, next_d, next_e, next_m, next_codes}
use Rattle.laws.specs.Status.{sound}
use Rattle.retiring.specs.Retiring.{status_after, tally_after}
use Rattle.retiring.specs.declared.Tally.{Tally}
use Rattle.flow.specs.declared.Flow.{Flow}
use Rattle.flow.specs.Moving.{signals_with, signals_of, fetched_in, source_in, decoded_in, shifted_of, flow_after}
use Rattle.pipe.specs.Parts.{whole, blame_in}

-- the record, its memory and its logs
abbrev pub piped : Pipeline → Memory → List ℕ → List ℕ → Piped
piped k m es ys = record { pipeline = k; memory = m; address_log = es; cycle_log = ys }

pub bad_after : (w : StageW) → is_bad (status_after w) ≡ bad_in_w w
unfolding bad_in_w status_after is_bad
bad_after bubble_w = refl
bad_after (in_w w) = refl

-- the state after a clock with w in W, whose stages, registers and memory become f, r and m
abbrev pub after : Settings → Tally → List ℕ → List ℕ → StageW → Flow → Registers → Blame → Memory → Piped
after s t es ys w f r z m =
    let t' = tally_after (core_of s) t w in
    piped (whole s f t' (status_after w) r z) m (es ++ logged w t'.last) (ys ++ logged w t'.cycles)

-- the flow's order of sources is that of the definitions
decoded_same : (s : Settings) (f : Flow) (t : Tally) (x : Status) (r : Registers) (z : Blame) (m : Memory) (es ys : List ℕ) (d : StageD)
    → decoded_in d (after_e (handed (core_of s) (after_m f.m m) f.e) f.codes) (after_m f.m m) f.w r
    ≡ decoded_d (core_of s) (piped (whole s f t x r z) m es ys) d
unfolding decoded_in decoded_d source_in source source_m source_w executing whole
decoded_same s f t x r z m es ys bubble_d = refl
decoded_same s f t x r z m es ys (in_d i) = refl

module _ (s : Settings) (f : Flow) (t : Tally) (x : Status) (r : Registers) (z : Blame) (m : Memory) (es ys : List ℕ) where
  abbrev now : Piped
  now = piped (whole s f t x r z) m es ys

  stops_by : (w : StageW) → bad_in_w w ≡ true → clock_by (core_of s) now w ≡ after s t es ys w f r (blame_in w m) m
  unfolding clock_by bad_in_w stopped_in whole tally_after status_after last_after retired_after kinds_after logged blame_in
  stops_by bubble_w b = cc
  stops_by (in_w w) b = rw b

  goes_by : (w : StageW) → bad_in_w w ≡ false → clock_by (core_of s) now w ≡ advanced (core_of s) now
  unfolding clock_by bad_in_w
  goes_by bubble_w b = refl
  goes_by (in_w w) b = rw b

  pub stops : is_bad x ≡ false → bad_in_w f.w ≡ true → clock (core_of s) now ≡ after s t es ys f.w f r (blame_in f.w m) m
  unfolding clock whole
  stops h b = rw h (stops_by f.w b)

  pub goes : is_bad x ≡ false → bad_in_w f.w ≡ false
      → clock (core_of s) now ≡ after s t es ys f.w (flow_after (core_of s) f r m) (registers_after f.w r) z (memory_after f.m m)
  unfolding clock advanced executing whole tally_after flow_after shifted_of signals_of signals_with fetched_in
      waits mispredicts returns fails cancels fetch_address fetched_now next_f next_d next_e next_m next_codes
  goes h b = rw h (goes_by f.w b ∙ rw (b, sound (status_after f.w) (bad_after f.w ∙ b), decoded_same s f t x r z m es ys f.d))

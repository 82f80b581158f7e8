-- Demand 3 at the host edge: what an inspector reads in the lent bytes, said of the plain history alone. Assumes nothing.
use Rattle.std.specs.Prelude.{ℕ, suc, ◌+◌, ◌≤◌, ◌<◌, ◌≡◌, Bool, List, [], ◌∷◌, length}
use Rattle.std.proofs.Math.Path.{refl, subst}
use Rattle.std.proofs.Common.{ap, ◌∙◌, arith}
use Rattle.std.proofs.Math.Bool.{true, false, cond}
use Rattle.machine.specs.declared.Codes.{Codes}
use Rattle.machine.specs.Types.{is_bad, status_number, codes_number}
use Rattle.machine.specs.Memory.{Memory, lent as lent_memory}
use Rattle.machine.specs.Plain.{Plain, is_stopped, steps}
use Rattle.clocked.specs.Charges.{due}
use Rattle.clocked.specs.Prediction.{core01, as_in_01}
use Rattle.clocked.specs.Pipeline.{Piped, pipe_start, clocks}
use Rattle.clocked.specs.PipeRuns.{PipeAnswer, pipe_done, settings_refused}
use Rattle.machine.specs.Runs.{window_refused}
use Rattle.account.specs.Statement.{Start, plain_from, piped_from, DueBy, Agrees}
use Rattle.account.specs.Seen.{Seen}
use Rattle.account.proofs.Sight.{seen_on}
use Rattle.account.proofs.Theorem.{demand3_seen}
use Rattle.account.proofs.Uses.{due_only, due_stopped, always}
use Rattle.account.proofs.Midrun.{in_mid_run}
use Rattle.account.proofs.TwoRuns.{unlogged_ran}
use Rattle.block.specs.Block.{words_in, with_words, codes_from}
use Rattle.replay_ends.specs.Ends.{edge_refusal, result_words}
use Rattle.edge.specs.Edge.{Edge, edge, edge_done, edge_run, replayed_by, replayed}
use Rattle.edge.specs.Checked.{runs_inside}

-- "until the stop, and none after": the cycles counted in so many clocks, when n instructions have retired
unfoldable pub elapsed : Plain → (clocked n : ℕ) → ℕ
elapsed s clocked n = cond (is_stopped (steps s n)) (due core01 s n) clocked

-- what the lent bytes hold after n instructions of the plain history: its registers and the five result words; with what memory and codes
-- is said beside it, since in mid-run they are ahead
unfoldable pub shown : Plain → (clocked n : ℕ) → Memory → Codes → (registers result : List ℕ) → Edge
shown s clocked n m c registers result =
    let k = (steps s n).machine in
    edge 0 m.bytes (with_words k.registers registers 0)
    (with_words (status_number k.status ∷ k.last ∷ codes_number c ∷ n ∷ elapsed s clocked n ∷ []) result 0)

module _ (memory registers result : List ℕ) (start codes budget : ℕ) where
  -- the start that the lent bytes and numbers say
  abbrev pub lent : Start
  lent = record { settings = as_in_01; registers = words_in 15 registers 0; codes = codes_from codes; address = start; memory = lent_memory memory }

  abbrev piped : Piped
  piped = clocks core01 (piped_from lent) budget

  abbrev pub answered : Edge
  answered = replayed memory registers result start codes budget

  module _ (h : edge_refusal (length memory) (length registers) (length result) start codes budget ≡ 0) where
    -- document 01's settings are never refused
    known : settings_refused as_in_01 ≡ false
    unfolding settings_refused
    known = refl

    whole : window_refused as_in_01.window (length memory) ≡ false
    unfolding window_refused
    whole = refl

    -- what the edge lets in is run
    ran : answered ≡ edge_done result_words (pipe_done piped [] []) registers result
    unfolding replayed replayed_by edge_run piped_from pipe_start
    ran =
        let inside = runs_inside 40 false as_in_01 memory registers result start codes budget known whole h in
        rw h (ap (λ (o : PipeAnswer). edge_done result_words o registers result) (unlogged_ran _ (lent_memory memory) budget inside).0)

    -- so it shows the plain history where demand 3 holds of the pipeline
    shows : (n : ℕ) → Agrees core01 (plain_from lent) piped budget n
        → answered ≡ shown (plain_from lent) budget n piped.memory piped.pipeline.codes registers result
    unfolding edge_done pipe_done result_words shown elapsed is_stopped
    shows n a =
        let s = steps (plain_from lent) n in
        let t : piped.pipeline.cycles ≡ elapsed (plain_from lent) budget n = times (is_bad s.machine.status) refl in
        ran ∙ cc (a.registers, a.status, a.last, a.retired)
      where
        times : (b : Bool) → is_bad (steps (plain_from lent) n).machine.status ≡ b → piped.pipeline.cycles ≡ cond b (due core01 (plain_from lent) n) budget
        times true e = (a.stopped (ap is_bad a.status ∙ e)).2
        times false e = a.running (ap is_bad a.status ∙ e)

    -- with the premise up to instruction k + 1 and no clock past its due cycle: registers, status, last address, retired and cycles
    pub edge_shows : (k : ℕ) → Seen core01 (plain_from lent) (suc k) → budget ≤ due core01 (plain_from lent) (suc k)
        → (n : ℕ) × DueBy core01 (plain_from lent) budget n
        × (answered ≡ shown (plain_from lent) budget n piped.memory piped.pipeline.codes registers result)
    unfolding words_in
    edge_shows k u q =
        let x = demand3_seen core01 lent refl k u budget q in
        (x.0, x.1.exactly, shows x.0 x.1)

    -- with two cycles to spare memory and codes too: ahead by the instructions that are due one cycle later, and two
    pub edge_ahead : (k : ℕ) → Seen core01 (plain_from lent) (suc k) → budget + 2 < due core01 (plain_from lent) (suc k)
        → (n a b : ℕ) × DueBy core01 (plain_from lent) budget n × DueBy core01 (plain_from lent) (budget + 1) a × DueBy core01 (plain_from lent) (budget + 2) b
        × (answered ≡ shown (plain_from lent) budget n (steps (plain_from lent) a).memory (steps (plain_from lent) b).machine.codes registers result)
    unfolding words_in
    edge_ahead k u q =
        let x = edge_shows k u (omega arith) in
        let y = in_mid_run core01 lent refl k u budget q in
        (x.0, y.0, y.1, x.1, y.2.stores, y.2.sets, x.2 ∙ rw (y.2.memory, y.2.codes))

    -- THE STOP: with the premise over the n instructions up to it, and a budget that reaches the cycle in which the last of them is due,
    -- whatever that budget is
    pub edge_stops : (n : ℕ) → ((i : ℕ) → i < n → is_stopped (steps (plain_from lent) i) ≡ false) → is_stopped (steps (plain_from lent) n) ≡ true
        → Seen core01 (plain_from lent) n → due core01 (plain_from lent) n ≤ budget
        → answered ≡ shown (plain_from lent) budget n (steps (plain_from lent) n).memory (steps (plain_from lent) n).machine.codes registers result
    unfolding words_in is_stopped
    edge_stops n f b u q =
        let s = plain_from lent in
        let x = always core01 lent refl (seen_on core01 s n b u) budget in
        let e : x.0 ≡ n = due_only core01 s budget x.0 n x.1.exactly (due_stopped core01 s budget n f b q) in
        let a : Agrees core01 s piped budget n = subst (λ (m : ℕ). Agrees core01 s piped budget m) e x.1 in
        let z = a.stopped (ap is_bad a.status ∙ b) in
        shows n a ∙ rw (z.0, z.1)

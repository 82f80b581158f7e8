-- The run is that of the definition (`Ways` `runs`), and the registers go back.
use mathlib.Core.Path.{◌≡◌}
use Rattle.answers.specs.Numbers.{record_in}
use Rattle.edge.proofs.Ways.{runs}
use Rattle.edge.proofs.replaying.replay.Goals as goal
use Rattle.edge.proofs.replaying.replay.Goals.{in-Ok, in-Err, in-Ok-run_unlogged, in-Err-run_unlogged}

pub returns : goal.returns
returns c =
    let fresh : c.match-started.fresh ≡ record_in c.start-started.result =
    elim c.match-started.branch [ in-Ok w ↦ cc (w.fresh-is, w.in-Ok.is) | in-Err w ↦ cc (w.fresh-is, w.in-Err.is) ] in
    let end : c.match-run_unlogged.end ≡ record_in c.run_unlogged.result =
    elim c.match-run_unlogged.branch [
      | in-Ok-run_unlogged w ↦ cc (w.end-is, w.in-Ok-run_unlogged.is)
      | in-Err-run_unlogged w ↦ cc (w.end-is, w.in-Err-run_unlogged.is)
    ] in
    let ran = runs _ _ _ _ _ _ _ _ _ _ _ _ _ c.read_registers.ensures c.from.ensures c.start-started.ensures fresh c.run_unlogged.ensures end in
    (ran.0, ran.1, c.write_words.ensures)

-- A clock of all stages. What each call gave goes into the one law `Ways` `flow_is`; memory and registers are those that the writes left.
use Rattle.flow.proofs.Ways.{m_carried, w_carried, flow_is}
use borrow.Author.Rules.{rules}
use Rattle.stage.specs.Forwarding.{targets_m}
use Rattle.flow.proofs.advance.Goals as goal

pub write_and_decode-decoded-requires : goal.write_and_decode-decoded-requires
unfolding targets_m
write_and_decode-decoded-requires c =
    (search rules, search rules, search rules, search (rules, m_carried), search (rules, w_carried))

pub shape_of-memory : goal.shape_of-memory
shape_of-memory c =
    search (rules, c.after_m-accessed.auto)

pub returns : goal.returns
unfolding targets_m
returns c = (
  flow_is _ _ _ _ c.requires.1 c.after_e-executed.ensures c.after_m-accessed.ensures.0 c.fetch_now-fetched.ensures
      c.targets_in-targets.ensures c.sources_d-sources.ensures c.write_and_decode-decoded.ensures.0 c.signals_now-s.ensures
      c.next_f.ensures c.next_d.ensures c.next_stage.ensures c.next_stage-2.ensures c.next_codes.ensures
      c.next_targets.ensures,
  c.write_and_decode-decoded.ensures.1,
  c.after_m-accessed.ensures.1,
)

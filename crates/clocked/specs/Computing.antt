-- Every definition that computes, of machine and of this crate: a theorem that says `unfolding computing` computes with all of them.
use Rattle.machine.specs.Computing as Base
use Rattle.clocked.specs.Prediction
use Rattle.clocked.specs.Charges
use Rattle.clocked.specs.Pipeline
use Rattle.clocked.specs.Premise
use Rattle.clocked.specs.PipeRuns

unfoldable pub computing : Unit {0}
unfolding
    Base.computing
    Prediction.rule Prediction.guess Prediction.predicted_next Prediction.mispredicted Prediction.meets Prediction.takes_late Prediction.awaited_a
    Prediction.load_use
    Charges.reason_behind Charges.amount Charges.no_kinds Charges.counted Charges.retired_of Charges.reason_from Charges.reason_of Charges.charge
    Charges.charges Charges.kinds_of Charges.due Charges.due_cycles
    Pipeline.pipe_start Pipeline.after_e Pipeline.after_m Pipeline.handed_a Pipeline.handed Pipeline.executing Pipeline.codes_after
    Pipeline.memory_after Pipeline.registers_after Pipeline.past_result Pipeline.past_both Pipeline.source_w Pipeline.source_m Pipeline.source Pipeline.waits_behind Pipeline.waits
    Pipeline.wrong Pipeline.mispredicts Pipeline.ret_in Pipeline.ret_in_d Pipeline.ret_in_e Pipeline.ret_in_m Pipeline.returns Pipeline.bad_in_w Pipeline.fails Pipeline.patched_in_w Pipeline.cancels Pipeline.restart Pipeline.returned_to Pipeline.mended
    Pipeline.fetch_address Pipeline.fetched_now Pipeline.next_f Pipeline.next_d Pipeline.decoded_d Pipeline.next_e Pipeline.next_m Pipeline.next_codes
    Pipeline.last_after Pipeline.retired_after Pipeline.kinds_after Pipeline.kept_after Pipeline.logged Pipeline.advanced Pipeline.stopped_in
    Pipeline.clock_by Pipeline.clock Pipeline.clocks
    Premise.writes_byte Premise.has_byte
    PipeRuns.instruction_refused PipeRuns.refused_in PipeRuns.refused_in_d PipeRuns.refused_in_e PipeRuns.refused_in_m PipeRuns.refused_in_w PipeRuns.refused_kept
    PipeRuns.counts_refused PipeRuns.settings_refused PipeRuns.record_refused PipeRuns.pipe_start_refusal PipeRuns.pipe_started PipeRuns.pipe_refusal
    PipeRuns.pipe_done PipeRuns.pipe_by PipeRuns.pipe_run PipeRuns.pipe_run_unlogged PipeRuns.pipe_clock
computing = tt

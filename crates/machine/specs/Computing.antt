-- Every definition of this crate that computes, named once: a theorem that says `unfolding computing` computes with all of them.
use Rattle.machine.specs.Types
use Rattle.machine.specs.Words
use Rattle.machine.specs.Memory
use Rattle.machine.specs.Table
use Rattle.machine.specs.Fetch
use Rattle.machine.specs.Stages
use Rattle.machine.specs.Plain
use Rattle.machine.specs.Runs

unfoldable pub computing : Unit {0}
unfolding
    Types.status_number Types.is_bad Types.fault_number Types.is_set Types.codes_number
    Words.sum Words.difference Words.number Words.placed Words.signed Words.outside
    Memory.seen_to Memory.code_end Memory.inside Memory.load Memory.store Memory.value Memory.written
    Table.table Table.row_of Table.is
    Fetch.size_at Fetch.own_bytes Fetch.stopping Fetch.names_a Fetch.names_b Fetch.misnamed Fetch.not_in_table Fetch.checked Fetch.half Fetch.constant_in Fetch.parsed Fetch.fetch Fetch.fault_at Fetch.blame_of Fetch.no_blame
    Stages.register Stages.source_a Stages.source_b Stages.decode Stages.operated Stages.overflows Stages.operated_codes Stages.codes_by
    Stages.new_codes Stages.condition Stages.computed Stages.result Stages.outcome Stages.execute Stages.loading Stages.storing Stages.loads Stages.stores Stages.addressed
    Stages.access_address Stages.stored Stages.stored_word Stages.access_status Stages.meets_window Stages.patches Stages.access Stages.new_memory Stages.result_target Stages.loaded_target
    Stages.new_registers Stages.turned Stages.straight Stages.next_address
    Plain.plain_start Plain.is_stopped Plain.fetched Plain.decoded Plain.executed Plain.accessed Plain.performed Plain.stopped_by Plain.step Plain.steps
    Runs.laid Runs.size_refused Runs.budget_refused Runs.log_refused Runs.window_refused Runs.start_refused Runs.lowest Runs.fetch_answer Runs.start_refusal Runs.plain_started
    Runs.plain_refusal Runs.plain_done Runs.plain_by Runs.plain_run Runs.plain_step
computing = tt

-- What computes in this crate: all of machine, and the host edge.
use Rattle.clocked.specs.Computing
use Rattle.block.specs.Block
use Rattle.replay_ends.specs.Ends
use Rattle.edge.specs.Edge

unfoldable pub computing : Unit {0}
unfolding Computing.computing Block.words_in Block.with_words Block.codes_from Ends.window_of Ends.settings_of Ends.numbers_refused Ends.replay_refusal Ends.result_words Ends.full_words
    Edge.edge_done Edge.edge_run Edge.replayed_by Edge.replayed Edge.replayed_set
computing = tt

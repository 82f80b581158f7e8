-- Demand 3. To be read: Statement, and Seen for its weakest premise; of what follows from it Uses, Prefix, Midrun, TwoRuns; and of the premise Needed (the
-- exception), Decide, DecideSeen, and where it breaks, Watch and Watching. The theorems are in proofs/, those about a file here in the one of the same name.
pub mod Names
pub mod Statement
pub mod Seen
pub mod Uses
pub mod Prefix
pub mod Midrun
pub mod TwoRuns
pub mod Contents
pub mod Needed
pub mod Decide
pub mod DecideSeen
pub mod Watch
pub mod Watching

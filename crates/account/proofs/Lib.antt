-- Demand 3's proof: Laws of the instruction set, Signals of the controls, the Relation, one Clock of it, Timing, the Reach and the Sight of a fetch,
-- Retirement, and the Theorem. What follows from it: Uses, Prefix, Midrun, TwoRuns. Without the premise: Own, Contents. Of the premise: that it is needed
-- (Back, Needed, Exact), Decide, DecideSeen, Examples, SeenExamples, and where it breaks, Watch and Watching.
pub mod Laws
pub mod Signals
pub mod Relation
pub mod Clock
pub mod Timing
pub mod Reach
pub mod Sight
pub mod Retirement
pub mod Theorem
pub mod Back
pub mod Uses
pub mod Prefix
pub mod Midrun
pub mod TwoRuns
pub mod Own
pub mod Needed
pub mod Exact
pub mod Contents
pub mod Decide
pub mod DecideSeen
pub mod Examples
pub mod SeenExamples
pub mod Watch
pub mod Watching

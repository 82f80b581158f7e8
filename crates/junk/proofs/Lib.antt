-- Bytes that play no part, the proof: the Bytes of fetch, load and store, the plain History, the Theorem. What it says of the answers of the runs: Answers.
-- Of its hypothesis: Decide. That it is tight: Examples.
pub mod Bytes
pub mod History
pub mod Theorem
pub mod Answers
pub mod Decide
pub mod Examples

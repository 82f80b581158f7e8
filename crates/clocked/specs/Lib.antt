-- Document 01's five-stage rules as definitions.
pub mod Record
pub mod Prediction
pub mod Charges
pub mod Pipeline
pub mod Premise
pub mod PipeRuns
pub mod Computing

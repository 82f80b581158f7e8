-- Document 01 as definitions, in its own order: all that the plain engine needs. The pipeline's rules are in clocked.
pub mod Types
pub mod Words
pub mod Memory
pub mod Table
pub mod Fetch
pub mod Stages
pub mod Plain
pub mod Runs
pub mod Computing

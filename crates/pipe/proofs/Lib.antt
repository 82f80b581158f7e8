pub mod Clocks
pub mod Runs
pub mod Entries

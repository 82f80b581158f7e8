pub mod Entries
pub mod Ways

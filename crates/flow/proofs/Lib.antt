pub mod Sources
pub mod Ways

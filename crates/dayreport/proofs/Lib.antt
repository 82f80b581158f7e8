pub mod Ways
pub mod Reading

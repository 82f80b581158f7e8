pub mod Checks
pub mod Allowed

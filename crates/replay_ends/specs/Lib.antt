pub mod Ends
pub mod Allowed

pub mod Block
pub mod Codes

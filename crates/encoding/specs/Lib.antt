pub mod Encode
pub mod Back

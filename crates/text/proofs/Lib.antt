pub mod Ways
pub mod Digits
pub mod Places
pub mod Fields
pub mod Lines

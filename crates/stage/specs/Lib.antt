pub mod Types
pub mod Forwarding
pub mod Addresses

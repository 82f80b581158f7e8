pub mod Stores
pub mod State
pub mod Follows
pub mod Loop

pub mod Numbers
pub mod Logs
pub mod Refusals
pub mod Joined

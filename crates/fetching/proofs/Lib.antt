pub mod Blame
pub mod Parse

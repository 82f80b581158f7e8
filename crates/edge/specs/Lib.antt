pub mod Edge
pub mod Checked

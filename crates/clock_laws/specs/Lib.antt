pub mod Registers
pub mod Stops
pub mod Settings
pub mod Late
pub mod Window

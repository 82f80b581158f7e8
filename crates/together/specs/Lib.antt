pub mod Both
pub mod AtEdge
pub mod Clocks

-- #114, y86peaks: its first line, its lines, and what it answers.
pub mod Line
pub mod Lines
pub mod Program
pub mod Laws

-- #114: what a day's samples say, as definitions, and what is proved of them.
pub mod Types
pub mod Mean
pub mod Day
pub mod Peak
pub mod Difference
pub mod Division
pub mod Tally

-- Document 01's marked cases and the two listings; the promises of the open operations, that each allows one answer only, and that the
-- wrong replays fall foul of them.
pub mod Names
pub mod Computing
pub mod Asked
pub mod Table
pub mod Bounds
pub mod HostEdge
pub mod Promises
pub mod Program
pub mod Listings
pub mod Single
pub mod Wrong
pub mod Edge
pub mod Days
pub mod NoPart
pub mod Written

-- Rules that no fresh start shows. To be read: the rows of Fetches, Works, Clocks, Guesses, Late, Patches and Entries, with the notation of Given and Looks; Rows says
-- that they hold, and Always what holds of every record.
pub mod Names
pub mod Given
pub mod Looks
pub mod Fetches
pub mod Works
pub mod Clocks
pub mod Guesses
pub mod Late
pub mod Patches
pub mod Entries
pub mod Rows
pub mod Always

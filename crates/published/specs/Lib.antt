-- A reader's check of the plain step: the columns of document 003's tables.
pub mod Names
pub mod Lengths
pub mod Fetching
pub mod Fillers
pub mod Columns

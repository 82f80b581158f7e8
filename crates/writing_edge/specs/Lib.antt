pub mod Writings

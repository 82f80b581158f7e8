pub mod Retiring

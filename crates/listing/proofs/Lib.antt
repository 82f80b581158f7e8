pub mod Judgement
pub mod Bytes
pub mod Lines
pub mod ReadingLaws
pub mod Accepted
pub mod Faults
pub mod Table

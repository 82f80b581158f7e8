-- Document 02's #103: what a listing is and means, and how it is read. That the reading is right is proved in proofs/.
pub mod Grammar
pub mod Reading
pub mod ReadingLaws
pub mod Accepted
pub mod Faults
pub mod Meaning
pub mod Table

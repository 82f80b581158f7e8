pub mod Memory
pub mod Status
pub mod Tests
pub mod Window

-- To be read: Line, Text, Verdict; and Exact, what is said of a trace. What an honest run writes: Honest. The other theorems are in proofs/.
pub mod Line
pub mod Text
pub mod Honest
pub mod Verdict
pub mod Exact

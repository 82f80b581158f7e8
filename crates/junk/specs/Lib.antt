-- Bytes that play no part (02, #112). To be read: Statement; for the answers of the runs Answers; the test of its hypothesis, Decide. The theorems are in
-- proofs/.
pub mod Statement
pub mod Answers
pub mod Decide

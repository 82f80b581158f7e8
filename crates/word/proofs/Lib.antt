-- Laws about words, over the width, the modulus or the count of bytes.
pub mod Bytes
pub mod Overflow
pub mod Wrapping

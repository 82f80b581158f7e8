pub mod HexText
pub mod Remark
pub mod Text
pub mod There
pub mod Back

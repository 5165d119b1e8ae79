pub mod Sums
pub mod ClassTexts

pub mod Decider
pub mod Remembered
pub mod Texts
pub mod Rows

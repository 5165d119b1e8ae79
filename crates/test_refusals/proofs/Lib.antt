pub mod Kept
pub mod Classes

pub mod Acts
pub mod Counted

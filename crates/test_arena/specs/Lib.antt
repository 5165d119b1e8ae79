pub mod Hands
pub mod Locked

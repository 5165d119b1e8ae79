pub mod Hands
pub mod Pairs

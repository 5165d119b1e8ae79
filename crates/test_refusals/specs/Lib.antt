pub mod Sized
pub mod Threes

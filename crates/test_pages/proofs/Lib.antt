pub mod Sized
pub mod Looked

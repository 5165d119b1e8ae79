pub mod Bytes
pub mod Whole
pub mod Loops
pub mod Packs
pub mod Looks

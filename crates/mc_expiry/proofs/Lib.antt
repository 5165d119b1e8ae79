pub mod Timed
pub mod Looks

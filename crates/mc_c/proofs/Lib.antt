pub mod AsBox
pub mod Acted
pub mod Written
mod Opened
pub mod Listed
pub mod Stopped

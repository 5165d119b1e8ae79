-- Items of keys: made, linked, referred to, and taken away.
pub mod Links
pub mod CopyLinks
pub mod Releases
pub mod WordReads
pub mod HeldReads
pub mod Reasoned
pub mod Condemns
pub mod CondemnCalls
pub mod Calls
pub mod Refers
pub mod References
pub mod GetsItems
pub mod NoneTold
pub mod Agains
pub mod Unlinks
pub mod Filled

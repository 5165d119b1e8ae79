pub mod Status
pub mod Run
pub mod Reading
pub mod Threads

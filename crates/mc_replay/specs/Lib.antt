pub mod Status
pub mod Steps
pub mod Changes
pub mod Events
pub mod Heads
pub mod Written
pub mod Reading

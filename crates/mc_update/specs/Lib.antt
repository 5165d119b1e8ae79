pub mod Changes
pub mod Updates
pub mod Counting
pub mod Adding

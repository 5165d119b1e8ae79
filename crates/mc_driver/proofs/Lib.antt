pub mod Replies
pub mod Outcomes
pub mod ThreadOutcomes
pub mod Taken

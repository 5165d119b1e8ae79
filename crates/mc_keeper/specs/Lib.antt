pub mod Kept
pub mod Stages
pub mod Calls
pub mod Replies
pub mod DeadRuns

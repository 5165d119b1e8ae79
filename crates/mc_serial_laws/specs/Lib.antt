pub mod Answered
pub mod Words
pub mod Present
pub mod Stays
pub mod Accounts
pub mod Replies
pub mod Rows

-- The rule of the table.
pub mod Written
pub mod Reached
pub mod NextMoments
pub mod Settled
pub mod Quiet
pub mod Peeks
pub mod Opens
pub mod Spread
pub mod Headlines
pub mod Ends

-- Hands, and what each knows.
pub mod Tallies
pub mod Knows
pub mod Splits
pub mod Joined
pub mod HandNumbers

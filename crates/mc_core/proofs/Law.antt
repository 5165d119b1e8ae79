pub mod LawKept
pub mod Stretches
pub mod Follows
pub mod Next

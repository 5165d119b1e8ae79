pub mod HoldsKept
pub mod ItemsByPlace
pub mod CountsByPlace
pub mod Leads
pub mod ItemInPlace
pub mod NewWords

pub mod Books
pub mod Replays
pub mod Marks
pub mod Sums
pub mod Kept
pub mod Agree
pub mod Map

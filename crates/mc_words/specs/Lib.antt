pub mod hand
pub mod rule
pub mod lock
pub mod item
pub mod page
pub mod chunk
pub mod Headline

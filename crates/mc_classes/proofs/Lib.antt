pub mod Accepted
pub mod Begun
pub mod ClassOf
pub mod OneTable
pub mod Sizes

pub mod Bounds
pub mod Computed
pub mod Shares
pub mod Worst

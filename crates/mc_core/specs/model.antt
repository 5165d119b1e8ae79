pub mod Head
pub mod Holdings
pub mod Looks
pub mod State
pub mod Columns
pub mod InOrder
pub mod Views
pub mod Codes

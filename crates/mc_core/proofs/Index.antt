pub mod Entered
pub mod Index
pub mod IndexStays
pub mod IndexMoves
pub mod IndexHeaders
pub mod IndexSteps
pub mod IndexLinks
pub mod IndexedKept

pub mod Counts
pub mod Counting
pub mod Lending
pub mod Texts
pub mod Rows
pub mod Slabs
pub mod Items
pub mod ClassMetrics

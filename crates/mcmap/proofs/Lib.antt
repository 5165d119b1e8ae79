pub mod PlayedMore
pub mod NoFloat
pub mod RowsMore
pub mod Paged

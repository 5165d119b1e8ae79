pub mod Ranges
pub mod Extends
pub mod FewRows

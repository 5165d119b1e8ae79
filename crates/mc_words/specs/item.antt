-- Items of keys: made, linked, referred to, and taken away.
pub mod Links
pub mod Fresh
pub mod Refs
pub mod Items
pub mod Calls
pub mod References
pub mod Again
pub mod Removal
pub mod Originals

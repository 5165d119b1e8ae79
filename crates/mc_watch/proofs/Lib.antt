pub mod Lines
pub mod Places
pub mod WatchedClasses
pub mod RememberedRules
pub mod Writes

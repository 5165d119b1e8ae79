-- The rule of the table, in parts.
pub mod Layout
pub mod Meaning
pub mod Happens
pub mod Told
pub mod Beginning
pub mod Places
pub mod Shown
pub mod Joins
pub mod End
pub mod Refused

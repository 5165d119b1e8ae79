pub mod Waste
pub mod Tables
pub mod Cases

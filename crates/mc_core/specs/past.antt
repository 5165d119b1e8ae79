pub mod Past
pub mod Learns
pub mod Stretch

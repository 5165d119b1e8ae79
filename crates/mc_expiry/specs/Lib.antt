pub mod Deadlines
pub mod Cases
pub mod Looking
pub mod Choosing
pub mod Getting
pub mod Setting
pub mod Storing

pub mod Status
pub mod Asked
pub mod Played
pub mod Pages
pub mod Checked
pub mod Json
pub mod Rows

-- Pages: cut, looked along, and moved.
pub mod Owner
pub mod Cuts
pub mod Moves

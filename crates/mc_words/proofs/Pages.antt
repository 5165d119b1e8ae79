-- Pages: cut, looked along, and moved.
pub mod Owners
pub mod OwnerViews
pub mod Judged
pub mod LookedOver
pub mod PageWords
pub mod MoveChanges
pub mod WholeCuts
pub mod BegunMoves

pub mod Rules
pub mod Locks
pub mod Hands
pub mod Items
pub mod Chunks
pub mod Pages

pub mod SameSlabs
pub mod Own
pub mod Guards
pub mod Frames
pub mod Framed
pub mod Effects

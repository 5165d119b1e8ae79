-- Chunks, in the lists of their classes.
pub mod Copies
pub mod Sweeps
pub mod Dead

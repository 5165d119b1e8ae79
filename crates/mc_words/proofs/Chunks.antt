-- Chunks, in the lists of their classes.
pub mod Heads
pub mod DeadAgain
pub mod Clears
pub mod FreeWalks
pub mod Copies
pub mod HeldOut
pub mod Sweeps
pub mod SweepViews
pub mod FewDead
pub mod Recovered
pub mod OwnDead
pub mod DeadOrders
pub mod Judging

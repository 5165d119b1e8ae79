-- Hands, and what each knows.
pub mod View
pub mod Tallies
pub mod Views
pub mod Idle
pub mod Arenas
pub mod Hands
pub mod Observers
pub mod Ready
pub mod Seats

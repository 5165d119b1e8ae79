-- Locks, and the values behind them.
pub mod TakeAndGive
pub mod OutFirst
pub mod LockViews
pub mod Waits
pub mod Lent
pub mod Locked
pub mod Unlocked
pub mod ChangeViews
pub mod StripeChanges
pub mod Waited

-- Locks, and the values behind them.
pub mod Slots
pub mod Tries
pub mod Out
pub mod Wait
pub mod Lent
pub mod Doing

pub mod Command
pub mod Words
pub mod Forms
pub mod Script
pub mod Written

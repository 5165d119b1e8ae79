pub mod model
pub mod run
pub mod past
pub mod law

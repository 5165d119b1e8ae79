pub mod SeenLooks
pub mod SeenAdds
pub mod SeenHolder
pub mod SeenQuiet
pub mod SeenTurns
pub mod SeenSteps
pub mod Reasons
pub mod Judged

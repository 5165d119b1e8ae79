mod Fronts
mod Keys
mod Played
mod Ranges
mod Taken

pub mod Stops
pub mod Each
pub mod Differences
pub mod OneFile
pub mod Adding

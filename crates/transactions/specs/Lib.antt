pub mod Walk
pub mod Purposes

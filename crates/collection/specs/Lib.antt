pub mod Marked
pub mod Walk

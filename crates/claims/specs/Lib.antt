pub mod Zeros
pub mod Entries
pub mod Work

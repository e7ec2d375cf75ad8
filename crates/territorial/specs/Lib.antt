pub mod Promises
pub mod Progress

pub mod First
pub mod Packed
pub mod Promises

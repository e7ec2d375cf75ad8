pub mod Promises
pub mod Put
pub mod Read

pub mod Sheet
pub mod Territories
pub mod Told
pub mod Promises
pub mod Claims

pub mod Rest
pub mod Rows
pub mod Faults
pub mod Turns
pub mod Here
pub mod Search
pub mod Whole
pub mod Cursor

pub mod Rest
pub mod Walk
pub mod Cursor

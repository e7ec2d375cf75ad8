pub mod Records
pub mod Most
pub mod Ahead

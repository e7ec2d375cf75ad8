pub mod Parts
pub mod Shares
pub mod Wholes

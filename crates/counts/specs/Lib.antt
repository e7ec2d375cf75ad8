pub mod Counting
pub mod Carried

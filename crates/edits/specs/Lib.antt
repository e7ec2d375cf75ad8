pub mod Kinds
pub mod Sequences
pub mod Readings
pub mod Judged

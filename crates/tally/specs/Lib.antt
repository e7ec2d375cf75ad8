pub mod Marked
pub mod Known

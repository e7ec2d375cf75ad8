pub mod Totals
pub mod Work
pub mod Counting
pub mod Overs

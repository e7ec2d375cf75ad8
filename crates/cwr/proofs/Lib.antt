pub mod Outcomes
pub mod Refusals
pub mod Alone
pub mod Firsts

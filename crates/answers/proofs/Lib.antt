pub mod Exact
pub mod Alone
pub mod Handed

pub mod Controls
pub mod Entries
pub mod Transactions
pub mod Groups
pub mod Files

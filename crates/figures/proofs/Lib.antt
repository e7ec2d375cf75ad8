pub mod Transactions
pub mod Records
pub mod Verdicts

pub mod Index
pub mod Lent
pub mod Which

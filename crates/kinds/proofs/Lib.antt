pub mod First
pub mod Spots
pub mod Laws

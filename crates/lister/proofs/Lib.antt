-- The laws that the proofs cite.
pub mod Words
pub mod Texts
pub mod Walk
pub mod Back
pub mod Small
pub mod Whole
pub mod Alone

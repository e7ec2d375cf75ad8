-- The laws that the proofs cite.
pub mod Entries
pub mod Slots
pub mod Parts

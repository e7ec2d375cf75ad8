-- The laws that the proofs cite; fits-none of Shares serves whoever asks `fits`.
pub mod Fields
pub mod Shares
pub mod Steps

-- The laws that the proofs cite; Own, Types, Sequences and Sorts serve whoever calls these functions, too.
pub mod Types
pub mod Own
pub mod Sorts
pub mod Codes
pub mod Sequences
pub mod Fields

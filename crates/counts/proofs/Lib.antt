-- The laws that the proofs cite.
pub mod Classes
pub mod Laws
pub mod Words

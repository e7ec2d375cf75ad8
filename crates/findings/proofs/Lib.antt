-- The laws that the proofs cite, and what a set says of the list that it was made of.
pub mod Laws

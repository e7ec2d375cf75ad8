-- The laws that the proofs cite, those of other crates too.
pub mod Laws

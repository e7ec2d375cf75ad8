-- The laws that the proofs and the callers cite.
pub mod Laws
pub mod Entries
pub mod Places

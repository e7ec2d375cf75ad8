-- The laws that the proofs cite, and those by which a walk over the records says what it has written and what it still owes.
pub mod Splice
pub mod Entries
pub mod Raised

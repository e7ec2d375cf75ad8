-- That the pass over a checked file's records makes of its buffers what the check with a territory table is defined to leave.
pub mod SetBits
pub mod Leaves
pub mod Raising
pub mod Marking
pub mod Turns
pub mod WholeFile
pub mod Known
pub mod Sorts
pub mod Gone
pub mod Owed
pub mod Found
pub mod Heads
pub mod Advancing

-- `Sets` has the laws on sets that proofs of this crate and of those above cite, and `Limits` those on a step's
-- limits; `Words` ties the machine's operations to sets.
pub mod Limits
pub mod Sets
mod Words

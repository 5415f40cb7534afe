-- `Kept` says how the forward tables of a plan lie in memory. The tables themselves are defined in `tables`.
pub mod Kept

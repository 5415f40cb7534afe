pub mod Editions
pub mod Tallies

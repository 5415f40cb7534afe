-- `Benches` says which chamber a number means, and what is decoded of it.
pub mod Benches

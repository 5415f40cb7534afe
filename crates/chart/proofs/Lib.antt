-- `Joins` has the laws of words that are joined to an output, `Walking` and `Backing` those on the loops over the
-- steps, from the last to the first.
mod Backing
pub mod Joins
mod Walking

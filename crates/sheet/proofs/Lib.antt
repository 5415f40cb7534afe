-- `LittleEndian` has the laws on numbers in bytes, `Walks` those on the walk along the chain, `Onward` those on the
-- steps after a record, `FourParts` those on what a step asks of the chambers, `Searches` those on the search for a
-- faulty step, and `Filling` those on the steps as the planner takes them.
mod Filling
mod FourParts
mod LittleEndian
mod Onward
mod Searches
mod Walks

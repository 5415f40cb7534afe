-- Read in this order. The plan: `Joining` (lists of words joined, also by a loop), `Parts` (a set and a plan in
-- parts), `Sizes` (the test of a step), `Whole` (FindSupport on each chamber, put together, is the best), `Bench` (a
-- bench and its steps, and the fewest switches), `Dealt` (chambers dealt out in order are a bench's). The chart:
-- `Among` (one chamber among others), `Joined` (the chart is that of each chamber, put together), `Words` (a chamber's
-- words are those of `tables`). The case of one chamber: `One`. A worked bench: `Benches`.
pub mod Among
pub mod Bench
pub mod Benches
pub mod Dealt
pub mod Joined
pub mod Joining
pub mod One
pub mod Parts
pub mod Sizes
pub mod Whole
pub mod Words

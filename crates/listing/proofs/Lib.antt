-- `Numerals` has the laws on digits, `Table` that a table which passes one test follows its rule. `Texts` has the laws
-- on bytes put one after the other, `Putting` is what the loops over lines share, `Stepping` has the lines of a plan
-- and `Sizing` those of sizes; `Within` says that a text lies within its output. What a listing is by what the reader
-- and the planner say is `Listings` of `promises`.
mod Numerals
mod Putting
mod Sizing
mod Stepping
mod Table
mod Texts
pub mod Within

-- `Demands` is the page to open first: it says what was asked for and names the files with the theorems, in the
-- order in which to open them. These are `Demand1`, `Demand2` and `Demand3`; `WrittenSheets`, `StepSizes`,
-- `FirstLoading`, `Ties`, `FirstEdition` and `BetweenEditions`, one for each request; and `AgreeingSheets`.
--
-- What they cite: `Exactly` has the law behind demand 1. `Read` has what is known of a sheet that was read.
-- `Steps`, `Plans`, `Charts`, `Verdicts`, `Writes`, `Converts` and `Listings` have the laws on each entry's answer,
-- `Likeness` those on sheets that get the same replies, `Restarts` those on a sheet whose start set is replaced,
-- and `Single` that a sheet with all of its units in the first chamber is the case of one chamber. `Examples` has
-- the worked examples.
pub mod AgreeingSheets
pub mod BetweenEditions
pub mod Charts
pub mod Converts
pub mod Demand1
pub mod Demand2
pub mod Demand3
pub mod Demands
pub mod Examples
mod Exactly
pub mod FirstEdition
pub mod FirstLoading
mod Likeness
pub mod Listings
pub mod Plans
pub mod Read
mod Restarts
mod Single
pub mod StepSizes
pub mod Steps
pub mod Ties
pub mod Verdicts
pub mod Writes
pub mod WrittenSheets

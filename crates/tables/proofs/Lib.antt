-- That the words read from the tables are the chart, in this order: `Raised`, `Forced`, `Ranking` and `Runs`
-- (rankings, and runs of the sets taken by them), `Changed`, `Stable` and `Before` (two runs in which one unit is
-- ranked higher), `Words` and `Backward` (the backward tables), `Prefix` and `Forward` (the forward tables), `Sound`,
-- `Complete` and `Exact` (the words of a step, with no switch to spare or one), `Slack` and `Ample` (with two or
-- more), and `Charted` (all words). For loops over the units of a set: `Gathering`. A worked campaign: `AllCells`.
pub mod AllCells
pub mod Backward
pub mod Before
pub mod Changed
pub mod Charted
pub mod Complete
pub mod Exact
pub mod Forced
pub mod Forward
pub mod Gathering
pub mod Prefix
pub mod Raised
pub mod Ranking
pub mod Runs
pub mod Slack
pub mod Sound
pub mod Ample
pub mod Stable
pub mod Words

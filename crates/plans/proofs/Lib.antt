-- That no plan has fewer switches than the one handed out, in this order: `Stands` (what is used of a ranking, and of
-- the set taken in a step), `Totals`, `Exchange`, `Improve` and `Optimal` (a plan of such sets is the best), `Orders`,
-- `Chosen`, `Ranks` and `Greedy` (FindSupport's sets are such). What is said of all plans: `AllPlans`, `Fewest` and
-- `Cells` (the chart's). The count from the second step on: `Loading`. Words in the first places of a list, and the
-- steps from one on: `Laid`. That the sizes of the feasible sets may stand for a step's two numbers: `Sized`. Worked
-- campaigns: `Campaigns`.
pub mod AllPlans
pub mod Campaigns
pub mod Cells
pub mod Chosen
pub mod Exchange
pub mod Fewest
pub mod Greedy
pub mod Improve
pub mod Laid
pub mod Loading
pub mod Optimal
pub mod Orders
pub mod Ranks
pub mod Sized
pub mod Stands
pub mod Totals

-- That the functions give FindSupport's plan: `Picking` (the first units in rank, by a look at one step), `Stretching`
-- (steps on end taken as one), `Joining` (the blocks), `Scanning` (the scan), `Supporting` (the set of a step) and
-- `Planning` (the plan).
mod Joining
mod Picking
mod Planning
mod Scanning
mod Stretching
mod Supporting

-- `Chambers` has the chambers of a bench, what a step asks of them, and the plan that is handed out for all of them;
-- `Parts` has a chamber's part of that, and a bench with one chamber.
pub mod Chambers
pub mod Parts

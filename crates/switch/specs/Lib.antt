-- What the planner's functions give, beside the definitions of `plans`: `Toward` has the ends of an order, `Groups`
-- how two sets part the units, `Stretches` some steps taken as one, and `Looked` what a look at them decides.
pub mod Groups
pub mod Looked
pub mod Stretches
pub mod Toward

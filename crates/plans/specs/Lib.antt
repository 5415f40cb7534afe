-- Read in this order: `Switch` has steps, plans and their switches, `Support` the plan that is handed out, and `Plans`
-- what is said of all plans. `Steps` has the step at a place in a list of steps.
pub mod Plans
pub mod Steps
pub mod Support
pub mod Switch

-- `Tables` has the tables from which the chart is read, and its words. `Places` says how tables lie in memory.
pub mod Places
pub mod Tables

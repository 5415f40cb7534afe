-- `Sets` says which units a set has and what is made of sets; `Limits` which sets a step allows, and of which sizes;
-- `Members` how the units of a set are taken one by one.
pub mod Limits
pub mod Members
pub mod Sets

-- `Decoded` has what is decoded of a chamber of a sheet, `Planned` the loop that plans one chamber after the other,
-- and `Checking` the loop that checks a plan.
pub mod Checking
pub mod Decoded
pub mod Planned

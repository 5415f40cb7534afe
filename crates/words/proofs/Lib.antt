-- `Filling` has what every loop over words keeps.
pub mod Filling

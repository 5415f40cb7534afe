-- `Joining` says what is written to an output, and `Blocks` what the loop over blocks of steps works on.
pub mod Blocks
pub mod Joining

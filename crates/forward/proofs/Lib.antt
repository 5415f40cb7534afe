-- That the functions write the forward tables, in this order: `Turning` (the rows of a set's units, one by one), and
-- `Blocks` (the tables after each step of a block, and those before each block).
pub mod Blocks
mod Turning

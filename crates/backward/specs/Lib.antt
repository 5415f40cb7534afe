-- `Backs` says how what is still to come lies in memory, and has what is found of the rows. The tables themselves are
-- defined in `tables`.
pub mod Backs

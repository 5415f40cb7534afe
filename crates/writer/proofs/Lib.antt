-- `Fields` has the bytes of numbers, `Outputs` what an output holds, `Sheets` the records of a sheet, put one by one,
-- and `Beginning` what is known once a sheet has begun.
mod Beginning
mod Fields
pub mod Outputs
mod Sheets

-- What an output holds once a sheet has `Begun`. What a sheet is stands in specs/Writing.antt of `format`.
pub mod Begun

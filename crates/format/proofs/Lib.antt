-- `Answers` has the laws on choices between a refusal and a value, `Told` those on what a result tells, `Numbers`
-- those on numbers in bytes, `Records` those on records and their links, `Chains` those on the chain, `Readings` those
-- on what the reader's stages say of a sheet, `Agreements` those on sheets that agree, and `Writings` that a sheet
-- that is written reads back. `Remade` has the laws on the bytes of a sheet in the other edition, and `Converted`
-- those on what it says. `Examples` has the worked examples.
pub mod Agreements
pub mod Answers
pub mod Chains
pub mod Converted
pub mod Examples
pub mod Numbers
pub mod Readings
pub mod Records
pub mod Remade
pub mod Told
pub mod Writings

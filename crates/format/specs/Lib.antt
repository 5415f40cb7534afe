-- Read in this order: `Numbers` in bytes, the `Format` of header and records, what an `Answer` is, the walk along the
-- `Chain`, and the `Reading` of a whole sheet. `Writing` has the bytes of a sheet that is written, and `Editions`
-- those of a sheet that is converted. `Stages` has the answer of each stage of the reader, `Told` what the results of
-- the code tell, `Agreement` which sheets differ in nothing that counts, or in nothing but the start set, and
-- `Examples` has sheets written out.
pub mod Agreement
pub mod Answer
pub mod Chain
pub mod Editions
pub mod Examples
pub mod Format
pub mod Numbers
pub mod Reading
pub mod Stages
pub mod Told
pub mod Writing

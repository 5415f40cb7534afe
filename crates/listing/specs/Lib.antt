-- What a listing `Puts` into an output, and the `Room` that it takes. What its text is stands in specs/Listing.antt of
-- `promises`.
pub mod Puts
pub mod Room

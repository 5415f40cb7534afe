-- What each entry replies and leaves in the lent memory: `Common` has what they share, then a file for each, `Steps`,
-- `Plan`, `Chart`, `Verdict`, `Write`, `Convert`, and `Listing` for the texts of both listings, with numbers as
-- `Digits`. `Replies` has how the results of the code are replied, `Statements` how the demands are stated, and
-- `Examples` the worked examples.
pub mod Chart
pub mod Common
pub mod Convert
pub mod Digits
pub mod Examples
pub mod Listing
pub mod Plan
pub mod Replies
pub mod Statements
pub mod Steps
pub mod Verdict
pub mod Write

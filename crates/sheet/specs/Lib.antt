-- What the reader's functions work with, beside the definitions of `format`: `Walking` says what the walk's state
-- does, and `Few` has a limit on sizes.
pub mod Few
pub mod Walking

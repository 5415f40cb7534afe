-- `Chambers` has the loop that draws one chamber after the other.
mod Chambers

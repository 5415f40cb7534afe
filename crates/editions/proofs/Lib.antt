-- `Remaking` has the laws on the records of a sheet that are put into an output in the other edition, one after the
-- other.
mod Remaking

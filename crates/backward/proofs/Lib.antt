-- That the functions write the backward tables, in this order: `Finding` (the units of a set, one by one),
-- `Returning` (a step back), and `Reading` (the words of the chart at a step).
mod Finding
mod Reading
mod Returning

-- The loop's invariant: what has been found, with the rows of the units that are left, is all.
use Rattle.std.proofs.Common.{◌≡◌}
use Rattle.units.specs.Sets.{union}
use Rattle.tables.specs.Places.{rows_of}
use Rattle.tables.specs.Tables.{row_count, gathered}
use Rattle.forward.proofs.rows.gather.Given as goal

abbrev pub invariant-loop-b : goal.invariant-loop-b
invariant-loop-b l = union l.found (gathered row_count l.b-iterator (rows_of l.table)) ≡ gathered row_count l.set (rows_of l.table)

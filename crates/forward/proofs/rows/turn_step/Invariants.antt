-- The loop's invariant: the units that are not left have their rows.
use Rattle.units.specs.Sets.{contains}
use Rattle.tables.specs.Places.{rows_of}
use Rattle.tables.specs.Tables.{held, row_before, turned_row}
use Rattle.forward.proofs.Turning.{Written}
use Rattle.forward.proofs.rows.turn_step.Given as goal

abbrev pub invariant-loop-b : goal.invariant-loop-b
invariant-loop-b l =
    Written l.next
    (λ b. turned_row l.free l.entering l.coming (contains l.step.before b) (row_before l.step.held (rows_of l.table) b))
    (held l.step.limits l.step.after) l.b-iterator

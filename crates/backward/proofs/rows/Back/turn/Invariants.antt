-- `backward::rows::Back::turn` meets its contract. The loop's invariant is `TurnedBack`, of both tables.
use Rattle.tables.specs.Tables.{even_row, gain_row}
use Rattle.backward.proofs.Returning.{TurnedBack}
use Rattle.backward.proofs.rows.Back.turn.Given as goal

abbrev pub invariant-loop-b : goal.invariant-loop-b
invariant-loop-b l =
    let back = l.self in
    TurnedBack l.initial.even l.even (even_row back.saves back.dispensable back.held back.free) l.set l.b-iterator
    × TurnedBack l.initial.gain l.gain (gain_row back.saves back.dispensable back.held back.free back.on back.new) l.set l.b-iterator

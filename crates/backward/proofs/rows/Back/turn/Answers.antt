-- `backward::rows::Back::turn` meets its contract. The loop's invariant is `TurnedBack`, of both tables.
use borrow.Author.Rules.{rules}
use Rattle.backward.proofs.Returning.{turned_back_none, turned_back_on, turned_back_done}
use Rattle.backward.proofs.rows.Back.turn.Goals as goal

pub loop-b-init : goal.loop-b-init
loop-b-init c = rw (c.into_iter-b-iterator.ensures.into_iter_gives, c.of-b-items.ensures) (turned_back_none _ _ _, turned_back_none _ _ _)

pub loop-b-preserved : goal.loop-b-preserved
loop-b-preserved c =
    let l = c.loop-b in
    let taken = c.in-Some.ensures.steps in (
      turned_back_on l.invariant.0 taken (search rules) c.even_row.result c.even_row.ensures,
      turned_back_on l.invariant.1 taken (search rules) c.gain_row.result c.gain_row.ensures,
    )

pub returns-clause-even_turned : goal.returns-clause-even_turned
returns-clause-even_turned c = turned_back_done c.loop-b.invariant.0 c.in-None.ensures.steps.0

pub returns-clause-gain_turned : goal.returns-clause-gain_turned
returns-clause-gain_turned c = turned_back_done c.loop-b.invariant.1 c.in-None.ensures.steps.0

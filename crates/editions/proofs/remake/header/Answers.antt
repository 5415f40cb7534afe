-- `editions::remake::header` meets its contract, in each edition.
use Rattle.editions.proofs.Remaking.{first_header, second_header}
use Rattle.editions.proofs.remake.header.Goals as goal

pub returns-then-first : goal.returns-then-first
returns-then-first c =
    rw (c.if-first.true, c.copy_from_slice.ensures.after, c.copy_from_slice-then-first.ensures.after, c.numbers.ensures) (first_header c.args.s.now c.requires)

pub returns-else-first : goal.returns-else-first
returns-else-first c =
    rw (c.if-first.false, c.copy_from_slice.ensures.after, c.copy_from_slice-else-first.ensures.after, c.numbers-else-first.ensures) (second_header c.args.s.now c.requires)

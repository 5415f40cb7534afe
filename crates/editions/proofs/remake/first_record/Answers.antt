-- `editions::remake::first_record` meets its contract.
use Rattle.editions.proofs.Remaking.{first_record}
use Rattle.editions.proofs.remake.first_record.Goals as goal

pub returns : goal.returns
returns c =
    rw (c.copy_from_slice.ensures.after, c.copy_from_slice-2.ensures.after, c.copy_from_slice-3.ensures.after) (first_record c.args.b.now c.requires)

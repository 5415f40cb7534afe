-- `judging::steps::put_steps` meets its contract. The loop's invariant: the steps so far, with those that are left,
-- are all.
use Rattle.judging.proofs.Listing.{Listing}
use Rattle.judging.proofs.steps.put_steps.Given as goal

abbrev pub invariant-loop-i : goal.invariant-loop-i
invariant-loop-i l = Listing l.initial.i-iterator.iter l.i-iterator.iter l.fn.list l.list l.i-iterator.count

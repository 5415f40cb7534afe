-- `switch::stretch::Stretch::of` meets its contract. The loop's invariant is `Joined`: the sets are those of the steps
-- that were gone over, which are the last ones.
use lib.ListN.{length}
use Rattle.switch.proofs.Joining.{Joined}
use Rattle.switch.proofs.stretch.Stretch.of.Given as goal

abbrev pub invariant-loop-s : goal.invariant-loop-s
invariant-loop-s l = Joined l.steps (length l.yielded) l.lower l.upper

-- The loop's invariant: the rows after each step up to the one at hand.
use Rattle.forward.specs.Kept.{AllKept}
use Rattle.forward.proofs.Run.turn_block.Given as goal

abbrev pub invariant-loop-i : goal.invariant-loop-i
invariant-loop-i l = AllKept l.self l.first l.i l.tables

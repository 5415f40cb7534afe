-- The loop's invariant: what is still to come before the step at hand, and the words of the steps from it on.
use Rattle.chart.proofs.Backing.{Backed}
use Rattle.chart.proofs.scarce.back_block.Given as goal

abbrev pub invariant-loop-i : goal.invariant-loop-i
invariant-loop-i l =
    Backed l.run l.tight l.us l.first l.last l.i l.later l.initial.on l.on l.initial.off l.off

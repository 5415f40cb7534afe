-- `switch::plan::plan` meets its contract. The loop's invariant is `Planned`: the plan is joined to the first i
-- places, and with the plan from there on joined to the others it is joined to all; the switches so far, with those
-- still to come, are its total.
use Rattle.switch.proofs.Planning.{Planned}
use Rattle.switch.proofs.plan.plan.Given as goal

abbrev pub invariant-loop-i : goal.invariant-loop-i
invariant-loop-i l = Planned l.steps l.start l.initial.out l.out l.i l.before l.total

-- `FeasiblePlans::next` ends, since each turn goes on to a later plan.
use Rattle.std.proofs.Common.{◌-◌, ◌≤◌}
use Rattle.all_plans.proofs.numbered.FeasiblePlansIterator.next.Given as goal

abbrev pub invariant-loop-self : goal.invariant-loop-self
invariant-loop-self l = (l.plans ≤ 16777216) × (l.initial.self.next ≤ l.self.next)

abbrev pub decreases-loop-self : goal.decreases-loop-self
decreases-loop-self l = l.plans - l.self.next

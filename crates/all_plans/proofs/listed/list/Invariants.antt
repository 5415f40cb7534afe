-- `all_plans::listed::list` meets its contract: the fewest so far is the total of some plan.
use Rattle.std.proofs.Common.{◌≤◌, IfSome}
use Rattle.all_plans.proofs.listed.list.Given as goal

abbrev pub invariant-loop-plan : goal.invariant-loop-plan
invariant-loop-plan l = IfSome l.fewest (λ n. n ≤ 24)

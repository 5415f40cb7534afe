-- `all_plans::numbered::total_of` meets its contract: each set has at most 4 units.
use Rattle.std.proofs.Common.{◌*◌, ◌≤◌}
use Rattle.all_plans.proofs.numbered.total_of.Given as goal

abbrev pub invariant-loop-set : goal.invariant-loop-set
invariant-loop-set l = l.total ≤ 4 * l.set-index

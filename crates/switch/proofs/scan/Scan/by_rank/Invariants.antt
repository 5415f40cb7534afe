-- `switch::scan::Scan::by_rank` meets its contract. The loop's invariant is `Scanned`: the units of the pick by the
-- ranking from the step at j on are those to be found.
use Prim.Native.Nat.{◌-◌}
use lib.ListN.{length}
use Rattle.switch.proofs.Scanning.{Scanned}
use Rattle.switch.proofs.scan.Scan.by_rank.Given as goal

abbrev pub invariant-loop-pick : goal.invariant-loop-pick
invariant-loop-pick l = Scanned l.self.steps.now l.from l.initial.pick l.j l.pick

abbrev pub decreases-loop-pick : goal.decreases-loop-pick
decreases-loop-pick l = length l.self.steps.now - l.j

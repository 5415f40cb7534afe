-- `campaign::check::check_read` meets its contract. The loop's invariant is `Checking`: what was found with what is
-- still to be found is all.
use Rattle.campaign.proofs.Checking.{Checking}
use Rattle.chambers.specs.Chambers.{numbered}
use Rattle.campaign.proofs.check.check_read.Given as goal

abbrev pub invariant-loop-step : goal.invariant-loop-step
invariant-loop-step l =
    Checking (numbered 0 l.chambers.units) l.initial.step-iterator.a l.initial.before l.plan l.step-iterator.a l.step-iterator.b.rest.now l.before l.feasible l.total

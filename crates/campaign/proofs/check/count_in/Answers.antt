-- `campaign::check::count_in` meets its contract: of an empty chamber nothing is counted.
use Rattle.campaign.proofs.Checking.{none_counted}
use Rattle.campaign.proofs.check.count_in.Goals as goal

pub returns-then-units-eq0 : goal.returns-then-units-eq0
returns-then-units-eq0 c = none_counted c.args.set c.args.units c.if-units-eq0.true

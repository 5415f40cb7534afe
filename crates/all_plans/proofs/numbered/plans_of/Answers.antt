use Rattle.std.proofs.Common.{refl, lit<}
use Rattle.all_plans.proofs.Shifts.{one_shifted}
use Rattle.all_plans.proofs.numbered.plans_of.Goals as goal

pub returns : goal.returns
returns c = one_shifted c.digits_of.result 24 16777216 c.digits_of.ensures (lit< tt) refl
